-- A scanner goes on past a join, a byte, a run.
use mathlib.Core.Path.{◌≡◌, refl, sym, ap, ◌∙◌}
use mathlib.Core.Bool.{Bool, true, false, not, cond, ◌&&◌, ◌||◌}
use mathlib.Core.List.{List, [], ◌∷◌, ◌++◌, map}
use Prim.Native.Nat.{ℕ, zero, suc, ◌+◌, ◌-◌, ◌≤◌, ◌<◌}
use native.Mathlib.Omega.{arith}
use borrow.Author.Tests.{ne_eqb, eq-eqb, not-true, ltb-true}
use lib.Dec.{eqb, ltb}
use lib.ListN.{length, take, drop, get_or, replicate, length-set, length-map}
use lib.Seq.{drop-drop}
use Rattle.text.specs.Bytes.{byte, is}
use Rattle.text.specs.Buffer.{laid}
use Rattle.text.specs.Class.{blank, word_byte}
use Rattle.text.specs.Contract.{lead}
use Rattle.text.specs.Quote.{quoting_after}
use Rattle.text.specs.declared.quote.Quoting.TheVariants.{Outside}
use Rattle.text.proofs.Laws.{both_true, either_assoc, not_both, part_length}
use Rattle.line.specs.declared.counts.Counts.{Counts}
use Rattle.line.specs.declared.mode.ScanMode.{ScanMode}
use Rattle.line.specs.declared.run.Run.TheVariants.{Blanks, Plain}
use Rattle.line.specs.declared.scanner.Scanner.{Scanner}
use Rattle.line.specs.Joined.{Mode, in_fields, in_comment, JoinedByte, kept, between, begins, leading, parts_fields, gives, join_blank, mode_after, mode_joined, indented}
use Rattle.line.specs.Scan.{quoting_at_end}
use Rattle.line.specs.Contract.{mode_of, quoting_of, joins_at, in_run, Progress, progress, longer, absorbed, absorbed_all, Few, Bounded, joined_ahead, joined_at, Goes}
use Rattle.line.proofs.JoinedLaws.{Steady, at_byte, at_join, at_run, indented_byte, indented_join, indented_run, begins_leading, lead_leading, by_blank, blank_joinless}
use Rattle.line.proofs.ProgressLaws.{closed_of, quoting_byte, quoting_join, quoting_run, absorbed_append, absorbed_kept}

-- ---- the counts stay few
few_one : (p : Progress) (x : JoinedByte) {k : ℕ} → Few p.joined p.kept p.fields k → Few (absorbed p x).joined (absorbed p x).kept (absorbed p x).fields (k + 1)
unfolding absorbed
few_one p (kept b) w = record { fewer = omega (arith, w.fewer); less = omega (arith, w.less); most = omega (arith, w.most) }
few_one p between {k} w = closed_of (λ q. Few q.joined q.kept q.fields (k + 1)) (longer p 1) (few (p.fields + 1) (omega (arith, w.less))) (few p.fields (omega (arith, w.less)))
  where
    few : (n : ℕ) → n ≤ p.joined + 1 → Few (p.joined + 1) p.kept n (k + 1)
    few n h = record { fewer = omega (arith, w.fewer); less = h; most = omega (arith, w.most) }

few_all : (p : Progress) (j : List JoinedByte) {k : ℕ} → Few p.joined p.kept p.fields k → Few (absorbed_all p j).joined (absorbed_all p j).kept (absorbed_all p j).fields (k + length j)
unfolding absorbed_all
few_all p [] {k} w = let z : k + 0 ≡ k = omega arith in rw z w
few_all p (x ∷ j) {k} w = let z : k + 1 + length j ≡ k + suc (length j) = omega arith in rw z at (few_all (absorbed p x) j (few_one p x w))

pub few_more : {joined kept fields k l : ℕ} → k ≤ l → Few joined kept fields k → Few joined kept fields l
few_more h w = record { fewer = w.fewer; less = w.less; most = omega (arith, w.most) }

-- the buffer keeps its length
length_one : (p : Progress) (x : JoinedByte) → length (absorbed p x).text ≡ length p.text
unfolding absorbed
length_one p (kept b) = length-set p.text p.kept b
length_one p between = closed_of (λ q. length q.text ≡ length p.text) (longer p 1) refl refl

pub length_all : (p : Progress) (j : List JoinedByte) → length (absorbed_all p j).text ≡ length p.text
unfolding absorbed_all
length_all p [] = refl
length_all p (x ∷ j) = length_all (absorbed p x) j ∙ length_one p x

blank_few : (m : Mode) (before : ℕ) → length (join_blank m before) ≤ 1
unfolding join_blank
blank_few in_comment before = omega arith
blank_few (in_fields q) before = go (word_byte before)
  where
    go : (t : Bool) → length (cond t (gives (in_fields q) (byte " ") ∷ []) []) ≤ 1
    go true = omega arith
    go false = omega arith

eqb_add : (a k : ℕ) → eqb (a + k) a ≡ eqb k 0
eqb_add a zero = eq-eqb (a + 0) a (omega arith)
eqb_add a (suc k) = ne_eqb (a + suc k) a (λ z. omega arith) ∙ sym (ne_eqb (suc k) 0 (λ z. omega arith))

-- a continuation line without its blank
bare_join : (line : List ℕ) (i end : ℕ) (t : Bool) → i < length line → joins_at (drop i line) ≡ true → end ≡ i + 2 + leading blank (drop (i + 2) line) → t || eqb end (i + 2) || not (indented (drop end line)) ≡ t || not (indented (drop i line))
bare_join line i end t h e d =
    let b = begins blank (drop (i + 2) line) in
    let r = indented (drop (i + 2 + leading blank (drop (i + 2) line)) line) in
    rw (d, indented_join line i h e, eqb_add (i + 2) (leading blank (drop (i + 2) line)), begins_leading blank (drop (i + 2) line)) (either_assoc t (not b) (not r) ∙ ap (λ x. t || x) (sym (not_both b r)))

-- the runs
steady_plain : Steady (in_run Plain) (in_fields Outside) kept
unfolding in_run mode_after parts_fields quoting_after blank
steady_plain = record {
  joinless = λ b e. (told b e).1;
  stays = λ b e. let h : 39 < b = (told b e).0 in rw (ne_eqb b 35 (λ z. omega arith), ne_eqb b 39 (λ z. omega arith), ne_eqb b 34 (λ z. omega arith));
  mark = λ b e. let h : 39 < b = (told b e).0 in rw (ne_eqb b 35 (λ z. omega arith), ne_eqb b 32 (λ z. omega arith), ne_eqb b 9 (λ z. omega arith));
}
  where
    told : (b : ℕ) → ltb 39 b && not (is "\\" b) ≡ true → (39 < b) × (is "\\" b ≡ false)
    told b e = let d = both_true (ltb 39 b) (not (is "\\" b)) e in (ltb-true 39 b d.0, not-true _ d.1)

steady_blanks : Steady (in_run Blanks) (in_fields Outside) (λ b. between)
unfolding in_run mode_after parts_fields quoting_after blank
steady_blanks = record {
  joinless = blank_joinless;
  stays = λ b e. by_blank (λ n. mode_after (in_fields Outside) n ≡ in_fields Outside) refl refl b e;
  mark = λ b e. by_blank (λ n. gives (in_fields Outside) n ≡ between) refl refl b e;
}

steady_comment : Steady (λ b. not (is "\\" b)) in_comment (λ b. between)
unfolding mode_after parts_fields
steady_comment = record { joinless = λ b e. not-true _ e; stays = λ b e. refl; mark = λ b e. refl }

map_same : (s : List ℕ) → map (λ b. between) s ≡ replicate (length s) between
map_same [] = refl
map_same (b ∷ s) = ap (λ j. between ∷ j) (map_same s)

-- ---- one scanner after another
module _ {line : List ℕ} {s : Scanner} {text ends : List ℕ} where
  pub goes_none : Bounded line s → Goes line s text ends s text ends
  goes_none w = record { low = omega arith; bounded = w; same = refl; hash = refl; made = refl; quotes = refl; bares = refl }

  -- what is laid is what the joined line has up to where the other is
  goes_by : {r : Scanner} {text' ends' : List ℕ} (x : List JoinedByte) → Bounded line s → s.at + length x ≤ r.at → r.at ≤ length line → r.hash ≡ s.hash
      → joined_ahead line s ≡ x ++ joined_ahead line r → progress r.counts text' ends' ≡ absorbed_all (progress s.counts text ends) x
      → quoting_at_end (quoting_of (mode_of s.mode)) (x ++ joined_ahead line r) ≡ quoting_at_end (quoting_of (mode_of r.mode)) (joined_ahead line r)
      → r.bare || not (indented (drop r.at line)) ≡ s.bare || not (indented (drop s.at line)) → Goes line s text ends r text' ends'
  goes_by {r} {text'} {ends'} x w h k hash a p q b =
      let f : Few r.counts.joined r.counts.kept r.counts.fields (s.at + length x) = rw (ap (λ (n : Progress). n.joined) p, ap (λ (n : Progress). n.kept) p, ap (λ (n : Progress). n.fields) p) (few_all (progress s.counts text ends) x w.few) in
      record {
        low = omega arith;
        bounded = record { within = k; few = few_more h f };
        same = ap (λ (n : Progress). length n.text) p ∙ length_all (progress s.counts text ends) x;
        hash = hash;
        made = rw p (sym (absorbed_append (progress s.counts text ends) x (joined_ahead line r))) ∙ ap (absorbed_all (progress s.counts text ends)) (sym a);
        quotes = sym q ∙ ap (quoting_at_end (quoting_of (mode_of s.mode))) (sym a);
        bares = b;
      }

  module _ (w : Bounded line s) where
    pub goes_byte : {n : Counts} {m : ScanMode} {text' ends' : List ℕ} → s.at < length line → joins_at (drop s.at line) ≡ false → mode_of m ≡ mode_after (mode_of s.mode) (get_or line s.at 0)
        → progress n text' ends' ≡ absorbed (progress s.counts text ends) (gives (mode_of s.mode) (get_or line s.at 0)) → Goes line s text ends (record { at = s.at + 1; mode = m; counts = n; bare = s.bare; hash = s.hash }) text' ends'
    unfolding absorbed_all
    goes_byte {n} {m} h e f p =
        let v = mode_of s.mode in
        let b = get_or line s.at 0 in
        goes_by (gives v b ∷ []) w (omega arith) (omega arith) refl (at_byte s.hash v line s.at h e ∙ rw f) p (rw f (quoting_byte v b (joined_at s.hash (mode_after v b) line (s.at + 1)))) (rw (indented_byte line s.at h e))

    pub goes_join : {n : Counts} {m : ScanMode} {text' ends' : List ℕ} (end : ℕ) → s.at < length line → joins_at (drop s.at line) ≡ true → end ≡ s.at + 2 + leading blank (drop (s.at + 2) line) → end ≤ length line → mode_of m ≡ mode_joined s.hash (mode_of s.mode)
        → progress n text' ends' ≡ absorbed_all (progress s.counts text ends) (join_blank (mode_of s.mode) (get_or (byte "\n" ∷ line) s.at 0)) → Goes line s text ends (record { at = end; mode = m; counts = n; bare = s.bare || eqb end (s.at + 2); hash = s.hash }) text' ends'
    goes_join {n} {m} end h e d k f p =
        let v = mode_of s.mode in
        let b = get_or (byte "\n" ∷ line) s.at 0 in
        goes_by (join_blank v b) w (omega (arith, blank_few v b)) k refl (at_join s.hash v line s.at h e ∙ rw (f, d)) p (rw f (quoting_join s.hash v b (joined_at s.hash (mode_joined s.hash v) line end))) (bare_join line s.at end s.bare h e d)

    -- bytes that need no step of their own
    goes_run : {f : ℕ → Bool} {v : Mode} {g : ℕ → JoinedByte} {n : Counts} {text' ends' : List ℕ} → Steady f v g → mode_of s.mode ≡ v → (end : ℕ) → end ≡ s.at + leading f (drop s.at line) → end ≤ length line
        → progress n text' ends' ≡ absorbed_all (progress s.counts text ends) (map g (take (end - s.at) (drop s.at line))) → Goes line s text ends (record { at = end; mode = s.mode; counts = n; bare = s.bare; hash = s.hash }) text' ends'
    goes_run {f} {v} {g} {n} y e end d k p =
        let r = drop s.at line in
        let z : end - s.at ≡ leading f r = omega arith in
        let l : length (map g (take (end - s.at) r)) ≡ end - s.at = length-map (take (end - s.at) r) g ∙ part_length line s.at end k in
        let b : indented (drop end line) ≡ indented r = rw d (sym (indented_run f y.joinless r ∙ rw (drop-drop (leading f r) s.at line))) in
        goes_by (map g (take (end - s.at) r)) w (omega (arith, l, w.within)) k refl (rw (e, z, d) (at_run s.hash y line s.at w.within)) p (rw (e, z) (quoting_run y r (joined_at s.hash v line end))) (rw b)

    pub goes_plain : {text' : List ℕ} (end : ℕ) → mode_of s.mode ≡ in_fields Outside → end ≡ s.at + leading (in_run Plain) (drop s.at line) → end ≤ length line → text' ≡ laid text s.counts.kept (take (end - s.at) (drop s.at line))
        → Goes line s text ends (record { at = end; mode = s.mode; counts = record { joined = s.counts.joined + (end - s.at); kept = s.counts.kept + (end - s.at); fields = s.counts.fields; start = s.counts.start }; bare = s.bare; hash = s.hash }) text' ends
    goes_plain end e d k t =
        goes_run steady_plain e end d k (rw t (sym (absorbed_kept (progress s.counts text ends) (take (end - s.at) (drop s.at line)) ∙ rw (part_length line s.at end k))))

    -- bytes that are in no field
    goes_between : {f : ℕ → Bool} {v : Mode} {n : Counts} {ends' : List ℕ} → Steady f v (λ b. between) → mode_of s.mode ≡ v → (end : ℕ) → end ≡ s.at + leading f (drop s.at line) → end ≤ length line → progress n text ends' ≡ absorbed_all (progress s.counts text ends) (replicate (end - s.at) between)
        → Goes line s text ends (record { at = end; mode = s.mode; counts = n; bare = s.bare; hash = s.hash }) text ends'
    goes_between y e end d k p =
        goes_run y e end d k (p ∙ ap (absorbed_all (progress s.counts text ends)) (sym (map_same (take (end - s.at) (drop s.at line)) ∙ rw (part_length line s.at end k))))

    pub goes_blanks : {n : Counts} {ends' : List ℕ} (end : ℕ) → mode_of s.mode ≡ in_fields Outside → end ≡ s.at + leading (in_run Blanks) (drop s.at line) → end ≤ length line → progress n text ends' ≡ absorbed_all (progress s.counts text ends) (replicate (end - s.at) between)
        → Goes line s text ends (record { at = end; mode = s.mode; counts = n; bare = s.bare; hash = s.hash }) text ends'
    goes_blanks end e d k p = goes_between steady_blanks e end d k p

    pub goes_comment : {n : Counts} {ends' : List ℕ} (end : ℕ) → mode_of s.mode ≡ in_comment → end ≡ s.at + lead (byte "\\") (drop s.at line) → end ≤ length line → progress n text ends' ≡ absorbed_all (progress s.counts text ends) (replicate (end - s.at) between)
        → Goes line s text ends (record { at = end; mode = s.mode; counts = n; bare = s.bare; hash = s.hash }) text ends'
    goes_comment end e d k p = goes_between steady_comment e end (d ∙ rw (lead_leading (byte "\\") (drop s.at line))) k p
