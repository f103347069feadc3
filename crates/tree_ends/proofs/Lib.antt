pub mod StackEnds
