-- After any series of batches of whole records the figures are those of all records together, so that dividing them otherwise changes no figure (02 (x)).
use mathlib.Core.Path.{◌≡◌, refl, sym, ap, ◌∙◌}
use mathlib.Core.Bool.{true}
use mathlib.Core.List.{List, [], ◌∷◌, ◌++◌, append_assoc, append-nil}
use Prim.Native.Nat.{ℕ, zero, suc, ◌+◌, ◌*◌, ◌/◌, ◌%◌, ◌≤◌}
use native.Mathlib.Omega.{arith}
use borrow.Author.Tests.{eqb-true}
use lib.Dec.{eqb}
use lib.ListN.{length, length-append, length-take, length-drop, take, drop}
use lib.Seq.{take-append-le, drop-append-le, take_all}
use Rattle.text.proofs.Laws.{pick_of, both_true}
use Rattle.figures.specs.declared.Figures.{Figures}
use Rattle.figures.specs.Figures.{record_limit, records_in, records_of, figures_of}
use Rattle.figures.specs.Feed.{first_records, records_after}
use Rattle.figures.specs.Contract.{Series, done, then, all_bytes_of, whole_records}
use Rattle.figures.proofs.Batches.{whole_after}

-- ---- the records of bytes that are put together
none_of : (b : List ℕ) → length b ≡ 0 → b ≡ []
none_of [] e = refl
none_of (x ∷ b) e = absurd (omega arith)

records_join : (j m : ℕ) (b c : List ℕ) → length b ≡ j * 8 → records_in (j + m) (b ++ c) ≡ records_in j b ++ records_in m c
unfolding records_in
records_join zero m b c h = let n = none_of b (omega arith) in let z : 0 + m ≡ m = omega arith in rw (n, z)
records_join (suc j) m b c h =
    let z : suc j + m ≡ suc (j + m) = omega arith in
    let l : 8 ≤ length b = omega arith in
    let k : length (drop 8 b) ≡ j * 8 = rw (length-drop 8 b) (omega arith) in
    rw (z, take-append-le 8 b c l, drop-append-le 8 b c l) (ap (λ r. take 8 b ∷ r) (records_join j m (drop 8 b) c k))

pub records_append : (b c : List ℕ) → length b % 8 ≡ 0 → records_of (b ++ c) ≡ records_of b ++ records_of c
unfolding records_of
records_append b c w =
    let z : (length b + length c) / 8 ≡ length b / 8 + length c / 8 = omega arith in
    rw (length-append b c, z) (records_join (length b / 8) (length c / 8) b c (omega arith))

-- ---- the first records of a list, taken in steps
take_limit : {A : Type 0} (n : ℕ) (xs ys : List A) → take n (take n xs ++ ys) ≡ take n (xs ++ ys)
take_limit zero xs ys = refl
take_limit (suc n) [] ys = refl
take_limit (suc n) (x ∷ xs) ys = ap (λ r. x ∷ r) (take_limit n xs ys)

pub first_most : (rs : List (List ℕ)) → length (first_records rs) ≤ record_limit
unfolding first_records
first_most rs = go record_limit rs
  where
    go : (n : ℕ) (xs : List (List ℕ)) → length (take n xs) ≤ n
    go n xs = rw (length-take n xs) (omega arith)

pub first_all : (rs : List (List ℕ)) → length rs ≤ record_limit → first_records rs ≡ rs
unfolding first_records
first_all rs h = take_all record_limit rs h

pub first_limit : (rs ss : List (List ℕ)) → first_records (first_records rs ++ ss) ≡ first_records (rs ++ ss)
unfolding first_records
first_limit rs ss = take_limit record_limit rs ss

pub after_most : (rs : List (List ℕ)) (batch : List ℕ) → length rs ≤ record_limit → length (records_after rs batch) ≤ record_limit
unfolding records_after
after_most rs batch h = pick_of {X = List (List ℕ)} (λ l. length l ≤ record_limit) (eqb (length batch % 8) 0) {x = first_records (rs ++ records_of batch)} {y = rs} (first_most (rs ++ records_of batch)) h

-- the records that count after a series
unfoldable pub records_after_all : List (List ℕ) → List (List ℕ) → List (List ℕ)
records_after_all rs [] = rs
records_after_all rs (b ∷ bs) = records_after_all (records_after rs b) bs

pub no_records : records_of [] ≡ []
unfolding records_of records_in
no_records = refl

after_all : (rs bs : List (List ℕ)) → length rs ≤ record_limit → whole_records bs ≡ true → records_after_all rs bs ≡ first_records (rs ++ records_of (all_bytes_of bs))
unfolding records_after_all all_bytes_of whole_records
after_all rs [] h w = sym (first_all rs h) ∙ ap first_records (sym (append-nil rs) ∙ ap (λ l. rs ++ l) (sym no_records))
after_all rs (b ∷ bs) h w =
    let t = both_true (eqb (length b % 8) 0) (whole_records bs) w in
    let k = eqb-true (length b % 8) 0 t.0 in
    let i = after_all (records_after rs b) bs (after_most rs b h) t.1 in
    let rest : List (List ℕ) = records_of (all_bytes_of bs) in
    i ∙ ap (λ l. first_records (l ++ rest)) (whole_after rs b k) ∙ first_limit (rs ++ records_of b) rest
    ∙ ap first_records (append_assoc rs (records_of b) rest ∙ ap (λ l. rs ++ l) (sym (records_append b (all_bytes_of bs) k)))

-- ---- series
-- figures of records become those of the records that count after the series
pub series_on : {f g : Figures} {bs : List (List ℕ)} → Series f bs g → (rs : List (List ℕ)) → length rs ≤ record_limit → f ≡ figures_of rs → g ≡ figures_of (records_after_all rs bs)
unfolding records_after_all
series_on done rs h e = e
series_on (then {batch = b} fed next) rs h e = series_on next (records_after rs b) (after_most rs b h) (fed.figures rs h e)

-- from the beginning: the figures of the first 1,000,000 records of all the bytes
pub series_figures : {g : Figures} {bs : List (List ℕ)} → Series (figures_of []) bs g → whole_records bs ≡ true → g ≡ figures_of (first_records (records_of (all_bytes_of bs)))
series_figures {bs = bs} s w = series_on s [] (omega arith) refl ∙ ap figures_of (after_all [] bs (omega arith) w)

-- "Dividing the records into other batches of whole records changes no figure."
pub divided_otherwise : {g h : Figures} {bs cs : List (List ℕ)} → Series (figures_of []) bs g → Series (figures_of []) cs h
    → whole_records bs ≡ true → whole_records cs ≡ true → all_bytes_of bs ≡ all_bytes_of cs → g ≡ h
divided_otherwise s t v w e = series_figures s v ∙ ap (λ b. figures_of (first_records (records_of b))) e ∙ sym (series_figures t w)

-- every figure that a series hands back is that of records, so the laws of `Making` hold of it
pub series_records : {g : Figures} {bs : List (List ℕ)} → Series (figures_of []) bs g → (rs : List (List ℕ)) × (g ≡ figures_of rs)
series_records {bs = bs} s = (records_after_all [] bs, series_on s [] (omega arith) refl)
