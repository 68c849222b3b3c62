pub mod Laws
pub mod NoRows
pub mod CutLaws
pub mod Parts
