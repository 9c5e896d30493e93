-- The walk over a paper's events: what is left of it leads to the whole. Assumes nothing.
use Rattle.std.specs.Prelude.{Option, Some}
use Prim.Native.Nat.{ℕ, suc, ◌+◌, ◌*◌, ◌/◌, ◌≤◌, ◌<◌}
use mathlib.Core.Bool.{Bool, true, false}
use mathlib.Core.Path.{◌≡◌, refl, sym, ap, ◌∙◌}
use mathlib.Core.List.{List, ◌∷◌, ◌++◌, append-nil}
use native.Mathlib.Omega.{arith}
use native.Mathlib.Nat.{zero-add}
use native.Mathlib.Numerals.{add-one}
use lib.Dec.{ltb}
use lib.ListN.{length, drop, length-append}
use borrow.Author.Tests.{ltb-false}
use Rattle.io.specs.Counts.{IsPrefixLen}
use Rattle.io.proofs.Counting.{prefix_len_of_le}
use Rattle.chain.specs.After.{After, after}
use Rattle.chain.proofs.Chain.{takes, passes, or_false}
use Rattle.words.specs.Records.{splice}
use Rattle.session.specs.Lent.{Lent}
use Rattle.calls.specs.Step.{World, world, made_on}
use Rattle.paper.specs.Events.{event_count, events_of, event_at}
use Rattle.paper.specs.Form.{is_refused_size, is_damaged}
use Rattle.paper.specs.declared.{PaperEvent.PaperEvent}
use Rattle.paper.proofs.Papers.{events_end, event_some}
use Rattle.paper_session.specs.Start.{blank_lent, start_on}
use Rattle.decimal.specs.Text.{appended}
use Rattle.decimal.proofs.Appended.{appended_none, appended_again, appended_end}
use Rattle.marking.specs.Marking.{event_calls, event_marked}
use Rattle.marking.specs.declared.{Marked.Marked}
use Rattle.marking.proofs.Laws.{marked_made}
use Rattle.lines.specs.Lines.{event_line, marked_line, lines_from, line_text, lines_text, line_room, text_room, refused_text, key_text, Walk, walk, event_walked, text_from}
use Rattle.lines.specs.declared.{Line.Line}
use Rattle.lines.proofs.text.Laws.{line_text_length}

-- a paper of no refused size has at most 8,192 events, and there is room for the line of each
module _ (size at i n : ℕ) (fits : is_refused_size size ≡ false) (few : at ≤ i * line_room) (big : n ≡ text_room) where
  events_few : size ≤ 65536
  unfolding is_refused_size
  events_few = ltb-false 65536 size (or_false (ltb 65536 size) _ fits).0

  pub room_next : i < size / 8 → at + line_room ≤ n
  room_next h = omega (arith, events_few)

module _ (i : ℕ) (e : PaperEvent) (w : World) (at : ℕ) (out : List ℕ) where
  abbrev wanted_line : Line
  wanted_line = marked_line i (event_marked e w)

  -- an event's calls, and its line
  pub event_walked_lem : (m : Marked) (l : Lent) (line : Line) (r : ℕ) (left : List ℕ) → after m l ≡ event_marked e w → line ≡ event_line i m l.memory.store
      → after r left ≡ appended (line_text line) at out → walk (world m.session l) (after r left) ≡ event_walked i e w at out
  unfolding event_walked
  event_walked_lem m l line r left o x put =
      let made : world m.session l ≡ made_on (event_calls e w) w = ap (λ (z : After Marked Lent). world z.result.session z.lent) o ∙ marked_made e w in
      rw (← made, ← o, ← x) (ap (walk (world m.session l)) put)

  module _ (v : World) (r : ℕ) (left : List ℕ) (done : walk v (after r left) ≡ event_walked i e w at out) where
    walked_at : v ≡ made_on (event_calls e w) w
    unfolding event_walked
    walked_at = ap (λ (x : Walk). x.at) done

    walked_text : after r left ≡ appended (line_text wanted_line) at out
    unfolding event_walked
    walked_text = ap (λ (x : Walk). x.text) done

    -- the text stays within the room of the events so far
    pub few_next : at ≤ i * line_room → r ≤ (i + 1) * line_room
    few_next few = omega (arith, appended_end r at left (line_text wanted_line) out walked_text, line_text_length wanted_line)

    -- a damaged event's line is the last
    text_last : is_damaged e ≡ true → (es : List PaperEvent) → after r left ≡ text_from i (e ∷ es) w at out
    text_last d es = rw (d, append-nil (line_text wanted_line)) walked_text

    -- after any other come those of the rest
    text_next : is_damaged e ≡ false → at + line_room ≤ length out → (es : List PaperEvent) → text_from (suc i) es v r left ≡ text_from i (e ∷ es) w at out
    text_next d room es =
        let rest : List ℕ = lines_text (lines_from (suc i) es v) in
        let start : r ≡ at + length (line_text wanted_line) = ap (λ (o : After ℕ (List ℕ)). o.result) walked_text in
        let text : left ≡ splice at (line_text wanted_line) out = ap (λ (o : After ℕ (List ℕ)). o.lent) walked_text in
        rw (start, text, d, ← walked_at) (appended_again at out (line_text wanted_line) rest (omega (arith, line_text_length wanted_line)))

-- a walk at event i of a paper: x is what is put in all
module _ (paper : List ℕ) (i : ℕ) (w : World) (at : ℕ) (out : List ℕ) (x : After ℕ (List ℕ)) (whole : text_from i (drop i (events_of paper)) w at out ≡ x) where
  -- past the last event nothing is left
  pub walk_done : event_count paper ≤ i → after at out ≡ x
  walk_done h = sym (appended_none at out) ∙ rw (events_end paper i h) at whole

  module _ (o : Option PaperEvent) (e : PaperEvent) (read : o ≡ event_at paper i) (some : o ≡ Some e)
      (v : World) (r : ℕ) (left : List ℕ) (done : walk v (after r left) ≡ event_walked i e w at out) (b : Bool) (test : b ≡ is_damaged e) where
    next_event : drop i (events_of paper) ≡ e ∷ drop (suc i) (events_of paper)
    next_event = (event_some paper i e (sym read ∙ some)).1

    -- a damaged event ends it
    pub walk_last : b ≡ true → after r left ≡ x
    walk_last t = text_last i e w at out v r left done (sym test ∙ t) (drop (suc i) (events_of paper)) ∙ rw next_event at whole

    -- and after any other it goes on
    pub walk_on : b ≡ false → at + line_room ≤ length out → text_from (i + 1) (drop (i + 1) (events_of paper)) v r left ≡ x
    walk_on t room = rw add-one (text_next i e w at out v r left done (sym test ∙ t) room (drop (suc i) (events_of paper)) ∙ rw next_event at whole)

-- the whole paper, from where its session starts
pub from_start : (paper : List ℕ) (w v : World) (out : List ℕ) (x : After ℕ (List ℕ)) → w ≡ v → x ≡ text_from 0 (events_of paper) w 0 out → x ≡ text_from 0 (events_of paper) v 0 out
from_start paper w v out x e put = rw (← e) put

-- text that was put at the start of a list is counted by its end
pub text_counts : (text l v : List ℕ) (r : ℕ) → after r v ≡ appended text 0 l → IsPrefixLen r v
unfolding splice
text_counts text l v r e =
    let end : r ≡ length text = ap (λ (x : After ℕ (List ℕ)). x.result) e ∙ zero-add (length text) in
    let whole : v ≡ text ++ drop (0 + length text) l = ap (λ (x : After ℕ (List ℕ)). x.lent) e in
    prefix_len_of_le r v (rw (whole, end) (omega (arith, length-append text (drop (0 + length text) l))))

module _ (paper out : List ℕ) (b : Bool) (x : After ℕ (List ℕ)) (test : b ≡ is_refused_size (length paper)) where
  -- 56 alone
  pub key_refused : b ≡ true → x ≡ appended refused_text 0 out → x ≡ appended (key_text paper) 0 out
  unfolding key_text
  key_refused t put = put ∙ ap (λ (l : List ℕ). appended l 0 out) (takes _ _ _ _ _ (sym test ∙ t) refl)

  -- the lines of its events
  pub key_lines : b ≡ false → x ≡ text_from 0 (events_of paper) (start_on blank_lent) 0 out → x ≡ appended (key_text paper) 0 out
  unfolding key_text
  key_lines t put = put ∙ ap (λ (l : List ℕ). appended l 0 out) (passes _ _ _ _ _ (sym test ∙ t) refl)
