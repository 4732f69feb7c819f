-- The laws of the check: what the code keeps is what the definitions read off the slots.
pub mod CheckExactly
pub mod CallLaws
pub mod turns
pub mod walks
