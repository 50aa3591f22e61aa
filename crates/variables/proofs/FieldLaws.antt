-- The steps of reading a field: bytes laid, a name's place, a reference replaced, and the whole text. Assumes nothing.
use Rattle.std.specs.Prelude.{Err, None, Ok, Option, Result, Some}
use mathlib.Core.Path.{◌≡◌, refl, sym, ap, ◌∙◌}
use mathlib.Core.Bool.{true, false, cond}
use mathlib.Core.List.{List, [], ◌∷◌, ◌++◌}
use Prim.Native.Nat.{ℕ, ◌+◌, ◌-◌, ◌≤◌, ◌<◌, min}
use native.Mathlib.Omega.{arith}
use native.Mathlib.Nat.{add-zero, zero-add}
use native.Mathlib.Decide.{dec_le}
use borrow.Author.Tests.{le-leb, lt-leb}
use lib.ListN.{length, take, drop, get_or, length-append, length-drop}
use lib.Seq.{drop-drop}
use Rattle.text.specs.Buffer.{laid}
use Rattle.text.specs.Contract.{Wrote}
use Rattle.text.specs.Quote.{quoting_after}
use Rattle.text.specs.Slice.{head_is}
use Rattle.text.specs.declared.quote.Quoting.{Quoting}
use Rattle.text.specs.declared.quote.Quoting.TheVariants.{Outside}
use Rattle.text.proofs.Laws.{part_rest}
use Rattle.text.proofs.Slices.{head_is_law}
use Rattle.text.proofs.Buffers.{laid_append, laid_past, laid_length, wrote_done, up_full}
use Rattle.fault.specs.declared.Cause.{Cause}
use Rattle.fault.specs.declared.Cause.TheVariants.{Variable, FieldLength}
use Rattle.variables.specs.declared.field.NamePlace.{NamePlace}
use Rattle.variables.specs.declared.field.Referred.{Referred}
use Rattle.variables.specs.Scope.{Scope, name_text}
use Rattle.variables.specs.Substitute.{Substitution, stays, refers, word, bracketed, reference, substituted, field_text}
use Rattle.variables.specs.Contract.{up_to_bad, Substitutes, count_told, Lays, answer_from, Completes, Writes, Places, taken_told, Refers, PutsReference}
use Rattle.variables.proofs.SubstituteLaws.{word_take, behind, Substituted, text_skip, text_plain, text_bad, text_known, text_end, text_whole}
use Rattle.variables.proofs.StoreLaws.{laid_first}

-- ---- bytes laid behind the first n
-- what a writer tells, counted
pub lays : {old new : List ℕ} {n k : ℕ} {xs : List ℕ} (r : Option ℕ) → length old ≡ 1024 → Wrote old new n xs r → k ≡ count_told r → Lays old new n xs k
lays (Some m) l w e = let d = wrote_done w refl in record { count = omega (arith, d.0, d.1); bytes = w.bytes }
lays {old} {n = n} {xs = xs} None l w e = let h = up_full (length old) (n + length xs) (sym w.answer) in record { count = omega arith; bytes = w.bytes }

-- nothing laid
pub lays_none : (out : List ℕ) (n : ℕ) → n ≤ 1025 → Lays out out n [] n
unfolding laid
lays_none out n h = record { count = omega arith; bytes = refl }

-- a byte that stays, and a quote that is removed
module _ (q : Quoting) (b : ℕ) {old new : List ℕ} {n k : ℕ} where
  pub lays_kept : stays q b ≡ true → Lays old new n (b ∷ []) k → Lays old new n (cond (stays q b) (b ∷ []) []) k
  lays_kept t w = rw t w

  pub lays_removed : stays q b ≡ false → Lays old new n [] k → Lays old new n (cond (stays q b) (b ∷ []) []) k
  lays_removed t w = rw t w

pub lays_length : {old new : List ℕ} {n k : ℕ} {xs : List ℕ} → Lays old new n xs k → (length new ≡ length old) × (k ≤ 1025)
lays_length {old} {n = n} {xs = xs} w = (ap length w.bytes ∙ laid_length old n xs, omega (arith, w.count))

-- ---- a name's place behind `$`: a name, a name in brackets, an open bracket
module _ (r : List ℕ) (w : ℕ) where
  pub place_plain : head_is 40 r ≡ false → w ≡ length (word r) → w ≤ length r → Places r (Some (record { start = 0; end = w; taken = w }))
  unfolding reference
  place_plain t e h = let z : w - 0 ≡ length (word r) = omega arith in record { refer = λ s. rw (t, z, word_take r, e); inside = (omega arith, h, h) }

  module _ (t : head_is 40 r ≡ true) (e : w ≡ length (word (drop 1 r))) where
    pub place_closed : head_is 41 (drop w (drop 1 r)) ≡ true → Places r (Some (record { start = 1; end = w + 1; taken = w + 2 }))
    unfolding reference bracketed
    place_closed c =
        let z : w + 1 - 1 ≡ length (word (drop 1 r)) = omega arith in
        let u : head_is 41 (drop (length (word (drop 1 r))) (drop 1 r)) ≡ true = rw (← e) c in
        let h = (head_is_law 41 (drop w (drop 1 r)) c).0 in
        let k : w + 2 ≤ length r = omega (arith, h, length-drop w (drop 1 r), length-drop 1 r) in
        record { refer = λ s. rw (t, u, z, word_take (drop 1 r), e); inside = (omega arith, omega arith, k) }

    pub place_open : head_is 41 (drop w (drop 1 r)) ≡ false → Places r None
    unfolding reference bracketed
    place_open c = let u : head_is 41 (drop (length (word (drop 1 r))) (drop 1 r)) ≡ false = rw (← e) c in record { refer = λ s. rw (t, u); inside = tt }

-- ---- a reference replaced, by the place of its name
module _ (s : Scope) {r : List ℕ} {n : ℕ} {old : List ℕ} where
  pub refers_missing : Places r None → PutsReference s r n old old None
  unfolding laid
  refers_missing p = record { put = rw (← p.refer s) record { answer = refl; bytes = refl }; within = omega arith }

  module _ {p : NamePlace} (w : Places r (Some p)) where
    pub refers_unknown : None ≡ name_text s (take (p.end - p.start) (drop p.start r)) → PutsReference s r n old old None
    unfolding laid
    refers_unknown e = record { put = rw (← w.refer s, ← e) record { answer = refl; bytes = refl }; within = omega arith }

-- of the bytes behind a `$`, as the code hands them on and as the answer is told
pub refers_rest : (s : Scope) (f : List ℕ) (k : ℕ) {n : ℕ} {old new : List ℕ} {a b : Option Referred} → a ≡ b → PutsReference s (take (length f - k) (drop k f)) n old new a →
    Refers (reference s (drop k f)) n old new b × (taken_told b ≤ length f - k)
refers_rest s f k e w = let l = length-drop k f in rw (← e) (rw (part_rest k f) at w.put, omega (arith, rw (part_rest k f) at w.within, l))

-- what is known where it is good
pub refers_told : (o : Option Substitution) {n : ℕ} {a : Referred} {old new : List ℕ} → Refers o n old new (Some a) → (x : Substitution) × (o ≡ Some x) × (x.taken ≡ a.taken) × Lays old new n x.text a.count
refers_told None w = let a = w.answer in cc
refers_told (Some x) w = let a = w.answer in (x, refl, cc, record { count = cc; bytes = w.bytes })

pub refers_bad : (o : Option Substitution) {n : ℕ} {old new : List ℕ} → Refers o n old new None → (o ≡ None) × (new ≡ old)
unfolding laid
refers_bad None w = (refl, w.bytes)
refers_bad (Some x) w = let a = w.answer in cc

-- ---- the text written
-- the answer, with bytes in front counted up to one past the limit
answer_behind : (n m : ℕ) (xs : List ℕ) (r : Result (List ℕ) Cause) → m ≡ min (n + length xs) 1025 → answer_from m r ≡ answer_from n (behind xs r)
answer_behind n m xs (Err c) e = refl
answer_behind n m xs (Ok t) e = elim (dec_le (n + length xs) 1024) [ yes g ↦ fits (omega arith) | no g ↦ long (omega arith) (omega (arith, length-append xs t)) ]
  where
    fits : m + length t ≡ n + (length xs + length t) → answer_from m (Ok t) ≡ answer_from n (Ok (xs ++ t))
    fits z = rw (length-append xs t, z)

    long : 1024 < m + length t → 1024 < n + length (xs ++ t) → answer_from m (Ok t) ≡ answer_from n (Ok (xs ++ t))
    long p r = rw (lt-leb _ _ p, lt-leb _ _ r)

-- a count past the buffer's end is as good as another
laid_count : (out : List ℕ) (m k : ℕ) (xs : List ℕ) → length out ≡ 1024 → m ≡ min k 1025 → laid out m xs ≡ laid out k xs
laid_count out m k xs l e = elim (dec_le k 1024) [ yes g ↦ fits (omega arith) | no g ↦ past (omega arith) (omega arith) ]
  where
    fits : m ≡ k → laid out m xs ≡ laid out k xs
    fits z = rw z

    past : length out ≤ m → length out ≤ k → laid out m xs ≡ laid out k xs
    past p r = laid_past out m xs p ∙ sym (laid_past out k xs r)

module _ {old mid new : List ℕ} {n m : ℕ} {xs ys : List ℕ} {t : Result (List ℕ) Cause} {r : (Result ℕ Cause)} where
  -- bytes were laid, then the others
  completes_behind : length old ≡ 1024 → Lays old mid n xs m → Completes mid new m t ys r → Completes old new n (behind xs t) (xs ++ ys) r
  completes_behind l p w =
      let k : length mid ≡ 1024 = (lays_length p).0 ∙ l in
      record {
        answer = w.answer ∙ answer_behind n m xs t p.count;
        bytes = w.bytes ∙ laid_count mid m (n + length xs) ys k p.count ∙ ap (λ (o : List ℕ). laid o (n + length xs) ys) p.bytes ∙ sym (laid_append old n xs ys);
      }

-- the same text by another name
writes_as : {s : Scope} {q : Quoting} {f : List ℕ} {old new : List ℕ} {n : ℕ} {t : Result (List ℕ) Cause} {xs : List ℕ} {r : (Result ℕ Cause)} → Substituted s q 0 f t xs → Completes old new n t xs r → Writes s q f old new n r
writes_as p w = rw (p.whole, p.part) w

module _ (s : Scope) (q : Quoting) (f : List ℕ) (i : ℕ) where
  module _ (h : i < length f) {old : List ℕ} {n : ℕ} where
    module _ {mid last : List ℕ} {r : (Result ℕ Cause)} (l : length old ≡ 1024) where
      -- a byte that is no reference was put, then the text behind it
      pub writes_plain : {m : ℕ} → refers q (get_or f i 0) ≡ false → Lays old mid n (cond (stays q (get_or f i 0)) (get_or f i 0 ∷ []) []) m →
          Writes s (quoting_after q (get_or f i 0)) (drop (i + 1) f) mid last m r → Writes s q (drop i f) old last n r
      writes_plain t p w = writes_as (text_plain s q f i h t) (completes_behind l p w)

      -- a reference was replaced, then the text behind it was written
      pub writes_known : {a : Referred} → refers q (get_or f i 0) ≡ true → Refers (reference s (drop (i + 1) f)) n old mid (Some a) →
          Writes s q (drop (i + 1 + a.taken) f) mid last a.count r → Writes s q (drop i f) old last n r
      writes_known {a} t p w =
          let d = refers_told (reference s (drop (i + 1) f)) p in
          let e : drop d.0.taken (drop (i + 1) f) ≡ drop (i + 1 + a.taken) f = rw d.2 (drop-drop a.taken (i + 1) f) in
          let z = text_skip s q d.0.taken (drop (i + 1) f) in
          let v : Completes mid last a.count (substituted s q d.0.taken (drop (i + 1) f)) (up_to_bad s q d.0.taken (drop (i + 1) f)) r = rw (z.whole, z.part, e) w in
          writes_as (text_known s q f i h t d.0 d.1) (completes_behind l d.3 v)

    -- a bad reference ends the text
    pub writes_bad : {new : List ℕ} → refers q (get_or f i 0) ≡ true → Refers (reference s (drop (i + 1) f)) n old new None → Writes s q (drop i f) old new n (Err Variable)
    unfolding laid
    writes_bad t p = let d = refers_bad (reference s (drop (i + 1) f)) p in writes_as (text_bad s q f i h t d.0) (record { answer = refl; bytes = d.1 })

  module _ (h : length f ≤ i) (out : List ℕ) (n : ℕ) where
    -- no byte is left
    pub writes_text : n ≤ 1024 → Writes s q (drop i f) out out n (Ok n)
    unfolding laid
    writes_text k = writes_as (text_end s q f i h) (record { answer = rw (add-zero, le-leb n 1024 k); bytes = refl })

    pub writes_long : 1024 < n → Writes s q (drop i f) out out n (Err FieldLength)
    unfolding laid
    writes_long k = writes_as (text_end s q f i h) (record { answer = rw (add-zero, lt-leb n 1024 k); bytes = refl })

-- the whole field was written
module _ {s : Scope} {f old new : List ℕ} {r : (Result ℕ Cause)} (l : length old ≡ 1024) (w : Writes s Outside f old new 0 r) where
  no_text : (c : Cause) → substituted s Outside 0 f ≡ Err c → Substitutes s f old new r
  unfolding field_text
  no_text c e = let a : r ≡ Err c = w.answer ∙ rw e in record { reading = rw (a, e); buffer = w.bytes; fits = rw a (omega arith) }

  short : (t : List ℕ) → substituted s Outside 0 f ≡ Ok t → length t ≤ 1024 → Substitutes s f old new r
  unfolding field_text
  short t e h =
      let a : r ≡ Ok (length t) = w.answer ∙ rw (e, zero-add, le-leb (length t) 1024 h) in
      let b : new ≡ laid old 0 t = w.bytes ∙ ap (laid old 0) (text_whole s Outside 0 f t e) in
      let k : length t ≤ length old = omega arith in
      record { reading = rw (a, e, le-leb (length t) 1024 h, b, laid_first old t k); buffer = w.bytes; fits = rw a h }

  long : (t : List ℕ) → substituted s Outside 0 f ≡ Ok t → 1024 < length t → Substitutes s f old new r
  unfolding field_text
  long t e h =
      let a : r ≡ Err FieldLength = w.answer ∙ rw (e, zero-add, lt-leb (length t) 1024 h) in
      record { reading = rw (a, e, lt-leb (length t) 1024 h); buffer = w.bytes; fits = rw a (omega arith) }

  pub substitutes : Substitutes s f old new r
  substitutes = by-text (substituted s Outside 0 f) refl
    where
      by-text : (o : Result (List ℕ) Cause) → substituted s Outside 0 f ≡ o → Substitutes s f old new r
      by-text (Err c) e = no_text c e
      by-text (Ok t) e = elim (dec_le (length t) 1024) [ yes h ↦ short t e h | no h ↦ long t e (omega arith) ]
