-- What each answer says, and the numbers that each call may be refused by. Assumes nothing.
use Rattle.std.specs.Prelude.{ℕ, List, [], ◌∷◌}
use Rattle.models.specs.Said.{Said, says, refused}
use Rattle.rows.specs.Values.{report_values}
use Rattle.session.specs.Said.{open_numbers, place_numbers, set_port_numbers, set_endpoints_numbers, acquire_numbers, initialize_numbers, close_numbers}
use Rattle.reports.specs.Said.{part_values, status_numbers, tally_numbers, cancel_numbers, reclaim_numbers, withdraw_numbers}
use Rattle.polls.specs.Said.{poll_numbers, poll_reply_numbers}
use Rattle.submissions.specs.Said.{begun_values, plan_values, submit_numbers, submit_plan_numbers, submit_reply_numbers}
use Rattle.recovery.specs.Said.{recovering_values, recovered_values, recover_numbers, recovery_reply_numbers}
use Rattle.calls.specs.Calls.{Placing, Device, Port, Endpoints, Reconcile, Moving, Acquire, Initialize, Close, Beginning, Submit, SubmitPlan, Poll, Recover, Replying, ToSubmit, ToPoll, ToRecovery, Changing, Cancel, Timeout, Reclaim, Withdraw, Reading, Status, Reports, CountReports, CompletedBytes, HeldCount, HeldBytes, Call, Open, Place, Move, Begin, Reply, Change, Read}
use Rattle.calls.specs.declared.{Answer.Answer}

abbrev pub answer_said : Answer → Said
answer_said (Answer.Refused r) = refused r
answer_said Answer.Pass = says []
answer_said (Answer.Begun x) = says (begun_values x)
answer_said (Answer.PlanBegun x) = says (plan_values x)
answer_said (Answer.Report x) = says (report_values x)
answer_said Answer.NoReport = says []
answer_said (Answer.Asked token) = says (token ∷ [])
answer_said (Answer.Number n) = says (n ∷ [])
answer_said (Answer.Bytes p) = says (part_values p)
answer_said (Answer.Recovering x) = says (recovering_values x)
answer_said (Answer.Recovered x) = says (recovered_values x)

abbrev pub placing_numbers : Placing → List ℕ
placing_numbers (Device d) = place_numbers
placing_numbers (Port number row) = set_port_numbers
placing_numbers (Endpoints slot list) = set_endpoints_numbers
placing_numbers (Reconcile slot mark) = place_numbers

abbrev pub moving_numbers : Moving → List ℕ
moving_numbers (Acquire reply) = acquire_numbers
moving_numbers (Initialize reply) = initialize_numbers
moving_numbers (Close fresh reply) = close_numbers

abbrev pub beginning_numbers : Beginning → List ℕ
beginning_numbers (Submit packets q) = submit_numbers
beginning_numbers (SubmitPlan q) = submit_plan_numbers
beginning_numbers (Poll id) = poll_numbers
beginning_numbers (Recover id kind) = recover_numbers

abbrev pub replying_numbers : Replying → List ℕ
replying_numbers (ToSubmit reply) = submit_reply_numbers
replying_numbers (ToPoll reply bytes) = poll_reply_numbers
replying_numbers (ToRecovery reply lists) = recovery_reply_numbers

abbrev pub changing_numbers : Changing → List ℕ
changing_numbers Cancel = cancel_numbers
changing_numbers Timeout = cancel_numbers
changing_numbers Reclaim = reclaim_numbers
changing_numbers Withdraw = withdraw_numbers

abbrev pub reading_numbers : Reading → List ℕ
reading_numbers (Status id) = status_numbers
reading_numbers (Reports from) = tally_numbers
reading_numbers CountReports = tally_numbers
reading_numbers (CompletedBytes id) = status_numbers
reading_numbers HeldCount = tally_numbers
reading_numbers HeldBytes = tally_numbers

abbrev pub call_numbers : Call → List ℕ
call_numbers (Open o) = open_numbers
call_numbers (Place p) = placing_numbers p
call_numbers (Move m) = moving_numbers m
call_numbers (Begin b) = beginning_numbers b
call_numbers (Reply r) = replying_numbers r
call_numbers (Change id c) = changing_numbers c
call_numbers (Read r) = reading_numbers r
