use Rattle.std.proofs.Common.{rules, ◌≡◌, ap, ◌∙◌, Ok, None, Some}
use Rattle.rows.specs.Store.{store_of}
use Rattle.polls.proofs.poll_reply.Laws.{at_nothing, at_error, at_completion}
use Rattle.polls.proofs.poll_reply.reply_at.Goals as goal

pub returns-in-Ok-None : goal.returns-in-Ok-None
unfolding store_of
returns-in-Ok-None c =
    let none : c.in-Ok-None.field-0 ≡ None = search (rules, c.in-Ok-None.field-0-is) in
    let reply : c.args.reply ≡ Ok None = c.in-Ok-None.is ∙ ap Ok none in
    search (at_nothing, reply)

pub returns-in-Err : goal.returns-in-Err
unfolding store_of
returns-in-Err c = search at_error

pub returns-in-Ok-Some : goal.returns-in-Ok-Some
unfolding store_of
returns-in-Ok-Some c =
    let some : c.in-Ok-Some.field-0 ≡ Some c.in-Ok-Some.completion = search (rules, c.in-Ok-Some.field-0-is) in
    let reply : c.args.reply ≡ Ok (Some c.in-Ok-Some.completion) = c.in-Ok-Some.is ∙ ap Ok some in
    search (at_completion, reply)
