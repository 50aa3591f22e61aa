-- What is laid of the whole joined line is its fields, one behind the other, and where they end; and the fields read back.
use mathlib.Core.Path.{◌≡◌, refl, ap, ◌∙◌}
use mathlib.Core.Bool.{Bool, true, false, cond}
use mathlib.Core.List.{List, [], ◌∷◌, ◌++◌, append-nil}
use Prim.Native.Nat.{ℕ, suc, ◌+◌, ◌-◌, ◌≤◌, ◌<◌}
use native.Mathlib.Omega.{arith}
use borrow.Author.Tests.{lt-ltb, le-ltb, ltb-false, ltb-true}
use lib.Dec.{ltb}
use lib.ListN.{length, take, set, length-append}
use lib.Seq.{append_snoc, take-nil}
use Rattle.text.specs.Buffer.{laid}
use Rattle.text.specs.Lists.{onto}
use Rattle.line.specs.Joined.{JoinedByte, kept, between}
use Rattle.line.specs.Scan.{stretches, non_empty, fields_of}
use Rattle.line.specs.Contract.{Progress, closed_if, closed_off, longer, absorbed, absorbed_all, ends_from, fields_text}
use Rattle.line.proofs.ProgressLaws.{closed_of}

-- ---- the field that is being read, in front of the stretches of what follows
abbrev glued : List ℕ → List (List ℕ) → List (List ℕ)
glued cur [] = cur ∷ []
glued cur (p ∷ ps) = (cur ++ p) ∷ ps

glued_onto : (cur : List ℕ) (b : ℕ) (ps : List (List ℕ)) → glued cur (onto b ps) ≡ glued (cur ++ b ∷ []) ps
glued_onto cur b [] = refl
glued_onto cur b (p ∷ ps) = rw (append_snoc cur b p)

glued_none : (ps : List (List ℕ)) → non_empty (glued [] ps) ≡ non_empty ps
unfolding non_empty
glued_none [] = refl
glued_none (p ∷ ps) = refl

-- ---- what is laid
absorbed_joined : (p : Progress) (x : JoinedByte) → (absorbed p x).joined ≡ p.joined + 1
unfolding absorbed
absorbed_joined p (kept b) = refl
absorbed_joined p between = closed_of (λ q. q.joined ≡ p.joined + 1) (longer p 1) refl refl

pub all_joined : (p : Progress) (j : List JoinedByte) → (absorbed_all p j).joined ≡ p.joined + length j
unfolding absorbed_all
all_joined p [] = omega arith
all_joined p (x ∷ j) = omega (arith, all_joined (absorbed p x) j, absorbed_joined p x)

text_onto : (b : ℕ) (ps : List (List ℕ)) → fields_text (non_empty (onto b ps)) ≡ b ∷ fields_text (non_empty ps)
unfolding fields_text non_empty
text_onto b [] = refl
text_onto b ([] ∷ ps) = refl
text_onto b ((x ∷ p) ∷ ps) = refl

pub all_text : (p : Progress) (j : List JoinedByte) → (absorbed_all p j).text ≡ laid p.text p.kept (fields_text (fields_of j))
unfolding absorbed_all absorbed fields_of stretches non_empty fields_text laid
all_text p [] = refl
all_text p (kept b ∷ j) = rw (text_onto b (stretches j)) (all_text (absorbed p (kept b)) j)
all_text p (between ∷ j) = all_text (absorbed p between) j ∙ closed_of (λ q. laid q.text q.kept (fields_text (fields_of j)) ≡ laid p.text p.kept (fields_text (fields_of j))) (longer p 1) refl refl

pub text_few : (j : List JoinedByte) → length (fields_text (fields_of j)) ≤ length j
unfolding fields_of stretches non_empty fields_text
text_few [] = omega arith
text_few (kept b ∷ j) = rw (text_onto b (stretches j)) (omega (arith, text_few j))
text_few (between ∷ j) = omega (arith, text_few j)

-- ---- where the fields end
pub record Ended (fields start : ℕ) (ends : List ℕ) (fs : List (List ℕ)) (q : Progress) : Type 0 where
  pub number : q.fields ≡ fields + length fs
  pub places : q.ends ≡ laid ends fields (take (64 - fields) (ends_from start fs))

told_one : (ends : List ℕ) (n e : ℕ) (es : List ℕ) → laid (cond (ltb n 64) (set ends n e) ends) (n + 1) (take (64 - (n + 1)) es) ≡ laid ends n (take (64 - n) (e ∷ es))
unfolding laid
told_one ends n e es = go (ltb n 64) refl
  where
    go : (t : Bool) → ltb n 64 ≡ t → laid (cond t (set ends n e) ends) (n + 1) (take (64 - (n + 1)) es) ≡ laid ends n (take (64 - n) (e ∷ es))
    go true f = let h : n < 64 = ltb-true n 64 f in let z : 64 - n ≡ suc (64 - (n + 1)) = omega arith in rw z
    go false f = let h : 64 ≤ n = ltb-false n 64 f in let y : 64 - n ≡ 0 = omega arith in let z : 64 - (n + 1) ≡ 0 = omega arith in rw (y, z)

closes_now : (p : Progress) (cur : List ℕ) (ps : List (List ℕ)) {q : Progress} → p.kept ≡ p.start + length cur → Ended (closed_off p).fields (closed_off p).start (closed_off p).ends (non_empty ps) q → Ended p.fields p.start p.ends (non_empty (cur ∷ ps)) q
unfolding non_empty closed_off laid ends_from
closes_now p [] ps h w = let k : p.kept ≤ p.start = omega arith in rw (le-ltb p.start p.kept k) at w
closes_now p (b ∷ cur) ps h w =
    let k : p.start < p.kept = omega arith in
    let v = rw (lt-ltb p.start p.kept k) at w in
    record { number = omega (arith, v.number); places = v.places ∙ ap (λ (n : ℕ). laid (cond (ltb p.fields 64) (set p.ends p.fields n) p.ends) (p.fields + 1) (take (64 - (p.fields + 1)) (ends_from n (non_empty ps)))) h ∙ told_one p.ends p.fields (p.start + length (b ∷ cur)) (ends_from (p.start + length (b ∷ cur)) (non_empty ps)) }

closed_start : (p : Progress) → p.start ≤ p.kept → (closed_off p).kept ≡ (closed_off p).start + 0
unfolding closed_off
closed_start p h = go (ltb p.start p.kept) refl
  where
    go : (t : Bool) → ltb p.start p.kept ≡ t → (closed_if t p).kept ≡ (closed_if t p).start + 0
    go true e = omega arith
    go false e = omega (arith, ltb-false p.start p.kept e)

-- cur are the bytes of the field that is being read
all_fields : (p : Progress) (cur : List ℕ) (j : List JoinedByte) → p.kept ≡ p.start + length cur → Ended p.fields p.start p.ends (non_empty (glued cur (stretches j))) (closed_off (absorbed_all p j))
unfolding absorbed_all absorbed stretches non_empty laid ends_from
all_fields p cur [] h = rw append-nil (closes_now p cur [] h (record { number = omega arith; places = rw (take-nil {A = ℕ} (64 - (closed_off p).fields)) }))
all_fields p cur (kept b ∷ j) h = rw (glued_onto cur b (stretches j)) (all_fields (absorbed p (kept b)) (cur ++ b ∷ []) j (omega (arith, length-append cur (b ∷ []))))
all_fields p cur (between ∷ j) h = rw append-nil (closes_now (longer p 1) cur (stretches j) h (rw (glued_none (stretches j)) at (all_fields (closed_off (longer p 1)) [] j (closed_start (longer p 1) (omega arith)))))

pub laid_fields : (p : Progress) (j : List JoinedByte) → p.kept ≡ p.start → Ended p.fields p.start p.ends (fields_of j) (closed_off (absorbed_all p j))
unfolding fields_of
laid_fields p j h = rw (glued_none (stretches j)) at (all_fields p [] j (omega arith))
