-- The version of the words of docs/CALLS.md. Assumes nothing.
use Rattle.std.specs.Prelude.{ℕ, ◌+◌, ◌*◌, ◌^◌}

-- rises where a word of a call, of an answer or of a lent slice means something else than before
abbrev pub major : ℕ
major = 1

-- rises where a call or a question is added
abbrev pub minor : ℕ
minor = 2

abbrev pub version : ℕ
version = major * 2 ^ 32 + minor
