-- The submission of a request (document 01, "Added by design" and "Request row"). Assumes nothing.
use Rattle.std.specs.Prelude.{ℕ, Bool, List, [], length, Ok, Err, Result, is_some, unwrap_or, option_copied}
use Rattle.chain.specs.After.{After, after}
use Rattle.models.specs.declared.{Refusal.Refusal, RequestMetadata.RequestMetadata, RequestSpec.RequestSpec}
use Rattle.targets.specs.declared.{Readings.Readings}
use Rattle.session.specs.Lent.{Lent}
use Rattle.session.specs.declared.{Called.Called, Session.Session}
use Rattle.submissions.specs.Admit.{admit_of}
use Rattle.submissions.specs.Begin.{Draft, draft, target_of}
use Rattle.submissions.specs.declared.{NewRequest.NewRequest, Submission.Submission, admit.Admitted.Admitted, begin.Start.Start}
use Rattle.session.specs.Called.{call_refused}

-- what a caller asks for; packets stand beside it
pub record Request : Type 0 where
  pub spec : RequestSpec
  pub bytes : List ℕ
  pub given : Bool
  pub readings : Readings

abbrev pub request : RequestSpec → List ℕ → Bool → Readings → Request
request q bytes given x = record { spec = q; bytes = bytes; given = given; readings = x }

-- what the code's record says: its packets, none of them where they are not given, and the rest
abbrev pub packets_in : NewRequest → List ℕ
packets_in x = unwrap_or (option_copied x.packets) []

abbrev pub request_in : NewRequest → Request
request_in x = request x.spec x.bytes.now (is_some x.packets) x.readings

-- what the backend is given: id, row, the whole metadata, whether packets were given
unfoldable pub submitted_by : Result Start Refusal → Session → RequestMetadata → Bool → Called Submission
submitted_by (Err r) s m given = call_refused s r
submitted_by (Ok x) s m given = record { answer = Ok (record { id = x.id; row = x.row; metadata = m; has_packets = given }); session = s }

abbrev pub submitted_to : After (Called Start) Lent → RequestMetadata → Bool → After (Called Submission) Lent
submitted_to o m given = after (submitted_by o.result.answer o.result.session m given) o.lent

-- 26 to 37, 58, 38, 39
unfoldable pub submit_target : Draft → Bool → Readings → Session → Lent → After (Called Submission) Lent
submit_target d given x s l = submitted_to (target_of d x s l) d.metadata given

unfoldable pub submit_by : Result Admitted Refusal → Request → Session → Lent → After (Called Submission) Lent
submit_by (Err r) q s l = after (call_refused s r) l
submit_by (Ok a) q s l = submit_target (draft a.place a.metadata q.bytes) q.given q.readings s l

-- 1, 3, 4, 5, 6 to 17; then 26 to 39
unfoldable pub submit_of : List ℕ → Request → Session → Lent → After (Called Submission) Lent
submit_of packets q s l = submit_by (admit_of packets q.given q.spec (length q.bytes) s l) q s l
