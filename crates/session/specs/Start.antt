-- The place start of document 01's table, for a call that is neither a reply nor a report. Assumes nothing.
use Rattle.std.specs.Prelude.{Bool, not, Result, Ok, Err, ⊤}
use Rattle.chain.specs.Chain.{◌if◌else◌}
use Rattle.models.specs.Refusals.{refusal_of}
use Rattle.models.specs.declared.{Refusal.Refusal}
use Rattle.session.specs.Session.{is_busy}
use Rattle.session.specs.declared.{Session.Session}

-- refused by 1 while an operation is in flight, by 3 if a slice has not the session's size; else done
unfoldable pub guarded : {A : Type 0} → Session → Bool → (Refusal → A) → A → A
guarded s fits refused done =
    refused (refusal_of 1) if is_busy s.in_flight else
    refused (refusal_of 3) if not fits else
    done

-- the second alone, for a report
unfoldable pub sized_of : Bool → Result ⊤ Refusal
sized_of fits = Err (refusal_of 3) if not fits else Ok tt

unfoldable pub ready_of : Session → Bool → Result ⊤ Refusal
ready_of s fits = guarded s fits Err (Ok tt)
