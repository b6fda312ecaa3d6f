pub mod Said
pub mod ReadsBack
pub mod AcceptedTexts
