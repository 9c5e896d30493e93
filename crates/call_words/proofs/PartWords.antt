-- Laws of the parts of calls' words: the words that a part takes are the words of what they say. A part's words are `tab f n`, the word
-- at k is f k. Assumes nothing.
use Prim.Native.Nat.{ℕ, zero, suc, ◌+◌, ◌-◌, ◌%◌, ◌<◌, ◌≤◌, ◌^◌}
use mathlib.Core.Path.{◌≡◌, refl, sym, ap, ◌∙◌}
use mathlib.Core.Bool.{Bool, true, ◌&&◌}
use mathlib.Core.List.{List, ◌++◌}
use native.Mathlib.Omega.{arith}
use lib.Dec.{eqb, leb}
use lib.ListN.{length, get_or, take, drop, take-append-drop}
use lib.Seq.{get_or-take, length-take-le}
use borrow.Author.Tests.{eqb-true, eqb-false, leb-true}
use Rattle.chain.proofs.Chain.{caseB, both}
use Rattle.words.specs.Records.{tab}
use Rattle.words.specs.Words.{read_flag, flag_word, option_u64_words, read_option_u32, option_u32_word, read_option_u64}
use Rattle.words.specs.declared.{OptionWords.OptionWords}
use Rattle.words.proofs.Options.{low}
use Rattle.words.proofs.Signed.{option_i32_word_lem}
use Rattle.words.proofs.Records.{get_or-tab, tab_all, tab_same, tab_list}
use Rattle.models.specs.Codes.{read_category, category_word, read_transfer, transfer_word, read_direction, direction_word, read_profile, profile_word, read_device_state, device_state_word}
use Rattle.models.specs.Values.{setup_words, error_words, option_error_words, read_error, read_option_error}
use Rattle.models.specs.declared.{SetupWords.SetupWords}
use Rattle.scope.specs.Returned.{read_completion}
use Rattle.call_words.proofs.Told.{and4, and5}
use Rattle.call_words.specs.Parts.{are_zero, by_flag, zeros, is_option_number, is_error, is_option_error, is_setup, is_option_setup, read_option_setup, is_reading, read_reading, reading_words, is_completion, backend_completion_words, is_stage, read_stage, stage_words, read_status, status_word}

-- ---- one word

-- the first n words say what has them for its words
module _ {A : Type 0} (f : A → ℕ) (g : ℕ → A) (n : ℕ) where
  pub coded : tab (λ (i : ℕ). f (g i)) n ≡ tab (λ (i : ℕ). i) n → (x : ℕ) → leb x (n - 1) ≡ true → 0 < n → f (g x) ≡ x
  coded e x t h =
      let l = leb-true x (n - 1) t in
      sym (get_or-tab (λ (i : ℕ). f (g i)) n x 0 (omega arith)) ∙ ap (λ (m : List ℕ). get_or m x 0) e ∙ get_or-tab (λ (i : ℕ). i) n x 0 (omega arith)

module _ (x : ℕ) where
  pub flag_word_lem : leb x 1 ≡ true → flag_word (read_flag x) ≡ x
  flag_word_lem t = coded flag_word read_flag 2 refl x t (omega arith)

  pub category_word_lem : leb x 6 ≡ true → category_word (read_category x) ≡ x
  category_word_lem t = coded category_word read_category 7 refl x t (omega arith)

  pub transfer_word_lem : leb x 3 ≡ true → transfer_word (read_transfer x) ≡ x
  transfer_word_lem t = coded transfer_word read_transfer 4 refl x t (omega arith)

  pub direction_word_lem : leb x 1 ≡ true → direction_word (read_direction x) ≡ x
  direction_word_lem t = coded direction_word read_direction 2 refl x t (omega arith)

  pub device_state_word_lem : leb x 6 ≡ true → device_state_word (read_device_state x) ≡ x
  device_state_word_lem t = coded device_state_word read_device_state 7 refl x t (omega arith)

  pub profile_word_lem : leb x 1 ≡ true → profile_word (read_profile x) ≡ x
  profile_word_lem t = coded profile_word read_profile 2 refl x t (omega arith)

  pub status_word_lem : leb x 2 ≡ true → status_word (read_status x) ≡ x
  status_word_lem t = coded status_word read_status 3 refl x t (omega arith)

  pub byte_word : leb x (2 ^ 8 - 1) ≡ true → x % 2 ^ 8 ≡ x
  byte_word t = low 8 (omega (arith, leb-true x (2 ^ 8 - 1) t))

  pub half_word : leb x (2 ^ 16 - 1) ≡ true → x % 2 ^ 16 ≡ x
  half_word t = low 16 (omega (arith, leb-true x (2 ^ 16 - 1) t))

  pub full_word : leb x (2 ^ 32 - 1) ≡ true → x % 2 ^ 32 ≡ x
  full_word t = low 32 (omega (arith, leb-true x (2 ^ 32 - 1) t))

  pub option_u32_word_lem : leb x (2 ^ 32) ≡ true → option_u32_word (read_option_u32 x) ≡ x
  option_u32_word_lem t =
      let l = leb-true x (2 ^ 32) t in
      caseB (eqb x 0) (λ e. rw e (sym (eqb-true x 0 e)))
      (λ e. let n = eqb-false x 0 e in let s : x - 1 < 2 ^ 32 = omega arith in rw (e, low 32 s) (omega arith))

-- ---- words that are not read

zero_at : (w : List ℕ) (at n : ℕ) → are_zero w at n ≡ true → (k : ℕ) → k < n → get_or w (at + k) 0 ≡ 0
zero_at w at zero t k h = absurd (omega arith)
zero_at w at (suc n) t k h =
    let p = both (are_zero w at n) (eqb (get_or w (at + n) 0) 0) t in
    caseB (eqb k n)
    (λ e. let z = eqb-true k n e in rw z (eqb-true (get_or w (at + n) 0) 0 p.1))
    (λ e. let z = eqb-false k n e in zero_at w at n p.0 k (omega arith))

pub zeros_words : (f : ℕ → ℕ) (n : ℕ) → are_zero (tab f n) 0 n ≡ true → tab f n ≡ zeros n
zeros_words f n t = tab_all f n 0 (λ j h. sym (get_or-tab f n j 0 h) ∙ (let z : 0 + j ≡ j = omega arith in rw z at (zero_at (tab f n) 0 n t j h)))

pub by_flag_lem : {P : Type 0} (k : ℕ) (x y : Bool) → by_flag k x y ≡ true → (k ≡ 0 → x ≡ true → P) → (k ≡ 1 → y ≡ true → P) → P
by_flag_lem k x y t a b =
    caseB (eqb k 0) (λ e. a (eqb-true k 0 e) (rw e at t))
    (λ e. let z : (eqb k 1 && y) ≡ true = rw e at t in let p = both (eqb k 1) y z in b (eqb-true k 1 p.0) p.1)

-- ---- parts
module _ (f : ℕ → ℕ) where
  abbrev pub from : ℕ → ℕ → ℕ
  from at k = f (at + k)

  pub number_words : is_option_number (tab f 2) 0 ≡ true → ◌≡◌ {A = OptionWords} (option_u64_words (read_option_u64 (f 0) (f 1))) (record { present = f 0; value = f 1 })
  number_words t = by_flag_lem (f 0) (eqb (f 1) 0) true t (λ e z. rw (e, eqb-true (f 1) 0 z)) (λ e z. rw e)

  pub error_words_lem : is_error (tab f 4) 0 ≡ true → error_words (read_error (tab f 4) 0) ≡ tab f 4
  error_words_lem t =
      let p = and4 (leb (f 0) 6) (leb (f 1) 65535) (leb (f 2) 4294967296) (leb (f 3) 4294967296) t in
      rw (category_word_lem (f 0) p.0, half_word (f 1) p.1, option_i32_word_lem (f 2) p.2, option_u32_word_lem (f 3) p.3)

  pub setup_words_lem : is_setup (tab f 5) 0 ≡ true
      → (f 0 % 2 ^ 8 ≡ f 0) × (f 1 % 2 ^ 8 ≡ f 1) × (f 2 % 2 ^ 16 ≡ f 2) × (f 3 % 2 ^ 16 ≡ f 3) × (f 4 % 2 ^ 16 ≡ f 4)
  setup_words_lem t =
      let p = and5 (leb (f 0) 255) (leb (f 1) 255) (leb (f 2) 65535) (leb (f 3) 65535) (leb (f 4) 65535) t in (
        byte_word (f 0) p.0,
        byte_word (f 1) p.1,
        half_word (f 2) p.2,
        half_word (f 3) p.3,
        half_word (f 4) p.4,
      )

module _ (f : ℕ → ℕ) where
  pub option_error_words_lem : is_option_error (tab f 5) 0 ≡ true → option_error_words (read_option_error (tab f 5) 0) ≡ tab f 5
  option_error_words_lem t =
      by_flag_lem (f 0) (are_zero (tab f 5) 1 4) (is_error (tab f 5) 1) t (λ e z. rw (e, zeros_words (from f 1) 4 z)) (λ e z. rw (e, error_words_lem (from f 1) z))

  pub option_setup_words_lem : is_option_setup (tab f 6) 0 ≡ true
      → ◌≡◌ {A = SetupWords} (setup_words (read_option_setup (tab f 6) 0)) (record { present = f 0; request_type = f 1; request = f 2; value = f 3; index = f 4; length = f 5 })
  option_setup_words_lem t =
      by_flag_lem (f 0) (are_zero (tab f 6) 1 5) (is_setup (tab f 6) 1) t
      (λ e z. let q = zero_at (tab f 6) 1 5 z in
      rw (e, q 0 (omega arith), q 1 (omega arith), q 2 (omega arith), q 3 (omega arith), q 4 (omega arith)))
      (λ e z. let q = setup_words_lem (from f 1) z in rw (e, q.0, q.1, q.2, q.3, q.4))

  pub reading_words_lem : is_reading (tab f 6) 0 ≡ true → reading_words (read_reading (tab f 6) 0) ≡ tab f 6
  reading_words_lem t =
      by_flag_lem (f 0) (leb (f 1) 4294967295 && are_zero (tab f 6) 2 4) (eqb (f 1) 0 && is_error (tab f 6) 2) t
      (λ e z. let p = both (leb (f 1) 4294967295) (are_zero (tab f 6) 2 4) z in rw (e, full_word (f 1) p.0, zeros_words (from f 2) 4 p.1))
      (λ e z. let p = both (eqb (f 1) 0) (is_error (tab f 6) 2) z in rw (e, error_words_lem (from f 2) p.1, eqb-true (f 1) 0 p.0))

  pub stage_words_lem : is_stage (tab f 3) 0 ≡ true → stage_words (read_stage (tab f 3) 0) ≡ tab f 3
  stage_words_lem t =
      by_flag_lem (f 0) (are_zero (tab f 3) 1 2) (leb (f 1) 1) t (λ e z. rw (e, zeros_words (from f 1) 2 z)) (λ e z. rw (e, direction_word_lem (f 1) z))

  -- ports: a flag, the count
  pub ports_words_lem : by_flag (f 0) (eqb (f 1) 0) (leb (f 1) 255) ≡ true
      → ◌≡◌ {A = OptionWords} (option_u64_words (read_option_u64 (f 0) (f 1 % 2 ^ 8))) (record { present = f 0; value = f 1 })
  ports_words_lem t =
      by_flag_lem (f 0) (eqb (f 1) 0) (leb (f 1) 255) t (λ e z. rw (e, eqb-true (f 1) 0 z)) (λ e z. rw (e, byte_word (f 1) z))

  pub completion_words_lem : is_completion (tab f 10) ≡ true → backend_completion_words (read_completion (tab f 10)) ≡ tab f 10
  completion_words_lem t =
      let p = and5 (is_option_error (tab f 5) 0) (is_option_number (tab f 10) 5) (leb (f 7) 4294967296) (leb (f 8) 1) (leb (f 9) 1) t in
      rw (option_error_words_lem p.0, number_words (from f 5) p.1, option_u32_word_lem (f 7) p.2, flag_word_lem (f 8) p.3, flag_word_lem (f 9) p.4)

-- ---- lists of words
module _ (w : List ℕ) where
  abbrev pub word : ℕ → ℕ
  word k = get_or w k 0

  pub cut : (n : ℕ) → n ≤ length w → tab word n ++ drop n w ≡ w
  cut n h =
      let e : length (take n w) ≡ n = length-take-le n w h in
      let z : tab word n ≡ take n w = tab_same (λ (k : ℕ). get_or (take n w) k 0) word n (λ j l. sym (get_or-take n w j 0 l)) ∙ rw e at (tab_list (take n w) 0) in
      rw z (take-append-drop n w)

  pub whole : (n : ℕ) → eqb (length w) n ≡ true → tab word n ≡ w
  whole n t = rw (eqb-true (length w) n t) at (tab_list w 0)
