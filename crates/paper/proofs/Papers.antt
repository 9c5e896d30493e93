-- Laws of a paper's events: a word and its event, eight bytes and their word, a walk over all events. Assumes nothing.
use Rattle.std.specs.Prelude.{Some, None}
use Rattle.std.specs.Int.{w64, from_be_bytes}
use Rattle.std.specs.Simd.{first_chunks}
use Prim.Native.Nat.{ℕ, zero, suc, ◌+◌, ◌*◌, ◌<◌, ◌≤◌, ◌^◌}
use mathlib.Core.List.{List, [], ◌∷◌}
use mathlib.Core.Path.{◌≡◌, sym, ap, ◌∙◌}
use native.Mathlib.Omega.{arith}
use native.Mathlib.Nat.{zero-add, zero-mul, suc-mul}
use lib.Dec.{ltb}
use lib.ListN.{length, get_or, take, drop, replicate, drop_of_length-le}
use lib.Seq.{drop-cons, drop-drop, take_all}
use borrow.Author.Tests.{lt-ltb, le-ltb, ltb-true, ltb-false}
use Rattle.chain.proofs.Chain.{caseB}
use Rattle.words.specs.Records.{part}
use Rattle.words.proofs.Records.{part_length, length-chunks, chunks_at}
use Rattle.paper.specs.Widths.{fields_of, packed, are_fields}
use Rattle.paper.specs.Events.{widths, event_fields, event_by, decoded, encoded, word_of, event_in, event_count, events_of, event_at}
use Rattle.paper.specs.declared.{PaperEvent.PaperEvent}
use Rattle.paper.proofs.Widths.{fields_fit, fields_packed, packed_fields, field_over, same_fields, packed_next}

-- an event from its word's fields
module _ (n kind slot endpoint sequence code length flags : ℕ) where
  pub decoded-by :
      kind ≡ get_or (fields_of widths n) 0 0
      → slot ≡ get_or (fields_of widths n) 1 0
      → endpoint ≡ get_or (fields_of widths n) 2 0
      → sequence ≡ get_or (fields_of widths n) 3 0
      → code ≡ get_or (fields_of widths n) 4 0
      → length ≡ get_or (fields_of widths n) 5 0
      → flags ≡ get_or (fields_of widths n) 6 0
      → ◌≡◌ {A = PaperEvent}
      record { kind = kind; slot = slot; endpoint = endpoint; sequence = sequence; code = code; length = length; flags = flags }
      (decoded n)
  unfolding decoded
  decoded-by a b c d e f g = rw (a, b, c, d, e, f, g)

module _ (e : PaperEvent) where
  -- a field over its width has no word
  pub encoded_none : (i : ℕ) → i < 7 → 2 ^ get_or widths i 0 ≤ get_or (event_fields e) i 0 → None ≡ encoded e
  unfolding encoded
  encoded_none i l h = rw (field_over widths (event_fields e) i l h)

  -- fields within their widths have one
  pub encoded_some : (n : ℕ)
      → e.kind < 2 ^ get_or widths 0 0
      → e.slot < 2 ^ get_or widths 1 0
      → e.endpoint < 2 ^ get_or widths 2 0
      → e.sequence < 2 ^ get_or widths 3 0
      → e.code < 2 ^ get_or widths 4 0
      → e.length < 2 ^ get_or widths 5 0
      → e.flags < 2 ^ get_or widths 6 0
      → n ≡ packed widths (event_fields e)
      → Some n ≡ encoded e
  unfolding encoded
  encoded_some n a b c d f g h same =
      rw (lt-ltb _ _ a, lt-ltb _ _ b, lt-ltb _ _ c, lt-ltb _ _ d, lt-ltb _ _ f, lt-ltb _ _ g, lt-ltb _ _ h, same)

-- an event is read back from its word, and a word is made again of its event
pub decoded-encoded : (e : PaperEvent) (n : ℕ) → encoded e ≡ Some n → decoded n ≡ e
unfolding encoded decoded
decoded-encoded e n =
    caseB (are_fields widths (event_fields e))
    (λ t. rw t λ h.
    let same : n ≡ packed widths (event_fields e) = cc in
    rw same (ap event_by (fields_packed widths (event_fields e) t)))
    (λ t. rw t λ h. let z : ◌≡◌ {A = ℕ} 0 1 = cc in absurd (omega arith))

pub encoded-decoded : (n : ℕ) → n < 2 ^ 64 → encoded (decoded n) ≡ Some n
unfolding encoded decoded
encoded-decoded n h = rw (fields_fit widths n, packed_fields widths n h)

-- a word is made again of its eight bytes, and eight bytes of their word
pub word_bytes : (n : ℕ) → n < 2 ^ 64 → word_of (fields_of (replicate 8 8) n) ≡ n
unfolding word_of
word_bytes n h = packed_fields (replicate 8 8) n h

pub bytes_word : (bytes : List ℕ) → length bytes ≡ 8 → ((i : ℕ) → i < 8 → get_or bytes i 0 < 256) → fields_of (replicate 8 8) (word_of bytes) ≡ bytes
unfolding word_of
bytes_word bytes l h = fields_packed (replicate 8 8) bytes (same_fields 8 8 bytes (sym l) h)

-- eight bytes as one number, the first of them the highest
be_bytes : (bytes : List ℕ) → length bytes ≡ 8 → from_be_bytes w64 bytes ≡ word_of bytes
unfolding word_of
be_bytes bytes l =
    let next = λ (i : ℕ) (h : i < 8). packed_next 8 bytes i (omega arith) in
    let whole = ap (packed (replicate 8 8)) (take_all 8 bytes (omega arith)) in
    omega (arith, whole, next 0 (omega arith), next 1 (omega arith), next 2 (omega arith), next 3 (omega arith), next 4 (omega arith), next 5 (omega arith), next 6 (omega arith), next 7 (omega arith))

-- a chunk of n is a part of the list
first_chunks_at : (n k i : ℕ) (xs d : List ℕ) → i < k → get_or (first_chunks n k xs) i d ≡ part (i * n) n xs
unfolding part
first_chunks_at n zero i xs d h = absurd (omega arith)
first_chunks_at n (suc k) zero xs d h = rw zero-mul
first_chunks_at n (suc k) (suc i) xs d h =
    let e : n + i * n ≡ suc i * n = omega (arith, suc-mul i n) in
    first_chunks_at n k i (drop n xs) d (omega arith) ∙ ap (take n) (drop-drop (i * n) n xs) ∙ ap (λ m. take n (drop m xs)) e

-- the event at a position, and the walk over all of them
module _ (paper : List ℕ) (i : ℕ) where
  -- there is none past the last
  pub at_none : event_count paper ≤ i → None ≡ event_at paper i
  unfolding event_at
  at_none h = rw (le-ltb i (event_count paper) h)

  -- by its chunk of the paper, the chunk's number and its event
  pub at_some : (bytes : List ℕ) (n : ℕ) (e : PaperEvent) → i < event_count paper → bytes ≡ get_or (first_chunks 8 (event_count paper) paper) i bytes
      → n ≡ from_be_bytes w64 bytes → e ≡ decoded n → Some e ≡ event_at paper i
  unfolding event_at
  at_some bytes n e h hb hn he =
      let here : bytes ≡ part (i * 8) 8 paper = hb ∙ first_chunks_at 8 (event_count paper) i paper bytes h in
      let eight : length bytes ≡ 8 = ap length here ∙ part_length (i * 8) 8 paper (omega arith) in
      rw (lt-ltb i (event_count paper) h, he, hn, be_bytes bytes eight, here)

  -- a walk over a paper: the event at i is the next of the events from i on, and at the end none is left
  pub events_step : i < event_count paper → drop i (events_of paper) ≡ event_in (part (i * 8) 8 paper) ∷ drop (suc i) (events_of paper)
  unfolding events_of
  events_step h =
      drop-cons (events_of paper) i (event_in []) (rw (length-chunks 0 8 event_in (event_count paper) paper) h)
      ∙ rw (chunks_at 0 8 event_in (event_count paper) paper i (event_in []) h, zero-add (i * 8))

  pub events_end : event_count paper ≤ i → drop i (events_of paper) ≡ []
  unfolding events_of
  events_end h =
      let none : length (events_of paper) ≤ i = rw (length-chunks 0 8 event_in (event_count paper) paper) h in
      drop_of_length-le (events_of paper) none

  -- the same by `event_at`
  pub event_some : (e : PaperEvent) → event_at paper i ≡ Some e
      → (i < event_count paper) × (drop i (events_of paper) ≡ e ∷ drop (suc i) (events_of paper))
  unfolding event_at
  event_some e =
      caseB (ltb i (event_count paper))
      (λ t. rw t λ h.
      let here : i < event_count paper = ltb-true i (event_count paper) t in
      let same : event_in (part (i * 8) 8 paper) ≡ e = cc in
      (here, rw same at (events_step here)))
      (λ t. rw t λ h. let z : ◌≡◌ {A = ℕ} 0 1 = cc in absurd (omega arith))

  pub event_none : event_at paper i ≡ None → event_count paper ≤ i
  unfolding event_at
  event_none =
      caseB (ltb i (event_count paper))
      (λ t. rw t λ h. let z : ◌≡◌ {A = ℕ} 0 1 = cc in absurd (omega arith))
      (λ t. rw t λ h. ltb-false i (event_count paper) t)
