-- One move: what a start and a tick change, that 10 and 11 are given exactly then, that both keep the shape, and that
-- one class throughout changes nothing.
pub mod MoveLaws
pub mod ShapeExact
pub mod MoveRefused
pub mod ShapeLaws
pub mod OneClassLaws
