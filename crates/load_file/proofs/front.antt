-- How much of a file matters: two files that agree in their front are read alike.
pub mod AgreeLaws
pub mod AgreeFile
pub mod FileFront
