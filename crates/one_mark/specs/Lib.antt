-- Outcome: what comes back. Over, Faithful: what the translation is for. Shifts: the shift cases. inner: what private contracts go by. What the translated table is stands in
-- climbing/specs/.
pub mod Outcome
pub mod Over
pub mod Faithful
pub mod Shifts
pub mod inner
