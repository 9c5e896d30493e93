use Rattle.lines.proofs.Walk.{text_counts, key_refused, key_lines}
use Rattle.lines.proofs.key.Goals as goal

pub returns-then-is_refused_size-clause-text : goal.returns-then-is_refused_size-clause-text
returns-then-is_refused_size-clause-text c = search key_refused

pub returns-then-is_refused_size-clause-counts : goal.returns-then-is_refused_size-clause-counts
returns-then-is_refused_size-clause-counts c = search text_counts

pub returns-clause-text : goal.returns-clause-text
returns-clause-text c = search key_lines

pub returns-clause-counts : goal.returns-clause-counts
returns-clause-counts c = search text_counts
