use Rattle.std.proofs.Common.{◌≤◌, ◌<◌, arith}
use Rattle.dispatch.proofs.Dispatch.{place_said, move_said, submit_said_lem, recover_said, withdraw_said}
use Rattle.dispatch.proofs.step.Goals as goal

pub returns-in-0-to-4 : goal.returns-in-0-to-4
returns-in-0-to-4 c =
    let upto4 : c.word_at-number.result ≤ 4 = omega arith in
    search (place_said, upto4)

pub returns-in-5-to-7 : goal.returns-in-5-to-7
returns-in-5-to-7 c =
    let past4 : 4 < c.word_at-number.result = omega arith in
    let upto7 : c.word_at-number.result ≤ 7 = omega arith in
    search (move_said, past4, upto7)

pub returns-in-8 : goal.returns-in-8
returns-in-8 c =
    let past4 : 4 < c.word_at-number.result = omega arith in
    let past7 : 7 < c.word_at-number.result = omega arith in
    let upto9 : c.word_at-number.result ≤ 9 = omega arith in
    search (submit_said_lem, past4, past7, upto9)

pub returns-in-10-to-24 : goal.returns-in-10-to-24
returns-in-10-to-24 c =
    let past4 : 4 < c.word_at-number.result = omega arith in
    let past7 : 7 < c.word_at-number.result = omega arith in
    let past9 : 9 < c.word_at-number.result = omega arith in
    let upto24 : c.word_at-number.result ≤ 24 = omega arith in
    search (recover_said, past4, past7, past9, upto24)

pub returns-in_default : goal.returns-in_default
returns-in_default c =
    let past4 : 4 < c.word_at-number.result = omega arith in
    let past7 : 7 < c.word_at-number.result = omega arith in
    let past9 : 9 < c.word_at-number.result = omega arith in
    let past24 : 24 < c.word_at-number.result = omega arith in
    search (withdraw_said, past4, past7, past9, past24)
