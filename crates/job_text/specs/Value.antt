-- The form of each value of the job text, and what it says (docs/RULES.md, "The job text and the printed answer"): passed on from the crate `job_values`.
-- Assumes nothing.
pub use Rattle.job_values.specs.Number.{and_then, most_number, leading_zero, at_most, hex_digits}
unfoldable pub use Rattle.job_values.specs.Number.{spelt, number, hex_word}
pub use Rattle.job_values.specs.Value.{pad_to, Edge, edge_of, buchi, streett, rabin, usual_kind, condition, dash, most_count, padded, eight, has_needs, job}
unfoldable pub use Rattle.job_values.specs.Value.{edge, text_form, kind, listed, needs, end}
