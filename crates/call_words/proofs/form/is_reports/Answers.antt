use Rattle.call_words.specs.Form.{is_reports}
use Rattle.call_words.proofs.form.is_reports.Goals as goal

pub returns : goal.returns
unfolding is_reports
returns c = cc
