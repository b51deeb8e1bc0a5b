-- Zeros after what is written: passed on from the crate `job_values`. Assumes nothing.
pub use Rattle.job_values.proofs.Pad.{pad_more}
