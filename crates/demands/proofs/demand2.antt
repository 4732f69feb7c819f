-- For demand 2: what C and the program get is the answer of the load that was read, and twins get the same answers.
pub mod FilesHold
pub mod HostHolds
pub mod SheetHolds
pub mod TwinsHold
