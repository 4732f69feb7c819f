-- Laws of the walk over the open rows, and of the moment until which the plan refuses a step.
pub mod WalkLaws
pub mod CameLaws
pub mod StayingLaws
pub mod PassingLaws
pub mod UntilLaws
pub mod StayingFrom
