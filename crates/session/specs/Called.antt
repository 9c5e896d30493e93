-- The result of a call that is refused, and of one that passes with no value. Assumes nothing.
use Rattle.std.specs.Prelude.{Result, Ok, Err, ⊤}
use Rattle.models.specs.declared.{Refusal.Refusal}
use Rattle.session.specs.declared.{Called.Called, Session.Session}

abbrev pub call_refused : {A : Type 0} → Session → Refusal → Called A
call_refused s r = record { answer = Err r; session = s }

abbrev pub passed : Session → Called ⊤
passed s = record { answer = Ok tt; session = s }
