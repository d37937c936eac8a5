pub mod NodeBuffers
