-- A bench in memory and the state that it holds; a board and the rows that it shows.
pub mod HeldLaws
pub mod LookLaws
pub mod PutLaws
pub mod CheckedLaws
pub mod ShownRows
pub mod LaterBoards
