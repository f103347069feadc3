pub mod StackNumbers
