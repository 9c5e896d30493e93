use Rattle.std.proofs.Common.{rules, ◌≡◌, ap, ◌∙◌, Ok}
use Rattle.polls.specs.declared.{PollAnswer.PollAnswer}
use Rattle.marking.proofs.Laws.{poll_refused_lem, poll_told, poll_asked}
use Rattle.marking.proofs.poll_event.Goals as goal

pub returns-in-Err : goal.returns-in-Err
returns-in-Err c = search poll_refused_lem

pub returns-in-Ok-Report : goal.returns-in-Ok-Report
returns-in-Ok-Report c =
    let report : c.in-Ok-Report.field-0 ≡ PollAnswer.Report c.in-Ok-Report.field-0-0 = search (rules, c.in-Ok-Report.field-0-is) in
    search (poll_told, c.in-Ok-Report.is ∙ ap Ok report)

pub returns-in-Ok-Asked : goal.returns-in-Ok-Asked
returns-in-Ok-Asked c =
    let asked : c.in-Ok-Asked.field-0 ≡ PollAnswer.Asked c.in-Ok-Asked.field-0-0 = search (rules, c.in-Ok-Asked.field-0-is) in
    search (poll_asked, c.requires, c.id_of-id.ensures, c.poll_request-polled.ensures, c.in-Ok-Asked.is ∙ ap Ok asked)
