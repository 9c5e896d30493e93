-- What a function answers, and what was lent to it as it is afterwards; over the types of both. Assumes nothing.

pub record After (A L : Type 0) : Type 0 where
  pub result : A
  pub lent : L

abbrev pub after : {A L : Type 0} → A → L → After A L
after r l = record { result = r; lent = l }
