-- What private contracts go by: what comes back, by what is read or refused. Assumes nothing.
use Rattle.std.specs.Prelude.{Result, Ok, Err}
use Rattle.hoa_tokens.specs.declared.BadToken.{BadToken}
use Rattle.hoa.specs.declared.Hoa.{Hoa}
use Rattle.hoa.specs.Returned.{refused_hoa}

-- the refusal, with zeros beside it
abbrev pub hoa_given : Result Hoa BadToken → Hoa
hoa_given (Ok r) = r
hoa_given (Err e) = refused_hoa e.number e.place
