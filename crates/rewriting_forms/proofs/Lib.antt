mod SampleOne
pub mod SampleTwo
mod SampleThree
mod SampleFour
