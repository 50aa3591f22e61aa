-- The ids that an entry sets have at most 64 bytes. Assumes nothing.
use Rattle.std.specs.Prelude.{None, Option, Result, Some}
use mathlib.Core.Bool.{false, not, ◌&&◌}
use mathlib.Core.List.{List, [], ◌∷◌, ◌++◌}
use Prim.Native.Nat.{ℕ, ◌+◌}
use lib.ListN.{drop, take}
use Rattle.text.specs.Lists.{null}
use Rattle.text.specs.Slice.{find_pair}
use Rattle.text.proofs.Laws.{pick_of}
use Rattle.fault.specs.declared.Cause.{Cause}
use Rattle.fault.specs.declared.Cause.TheVariants.{LatePair, MissingPart, OptionTwice}
use Rattle.fault.proofs.Readings.{Gives, gives_fault, gives_value, gives_then, gives_after, gives_require, Each}
use Rattle.pattern.specs.declared.Syntax.TheVariants.{Plain}
use Rattle.pattern.specs.Tree.{expanded}
use Rattle.variables.specs.Scope.{Scope}
use Rattle.variables.specs.Substitute.{field_text, field_as}
use Rattle.options.specs.Read.{Setting, option_of, twice}
use Rattle.condition.specs.Rightmost.{Judged}
use Rattle.condition.specs.Condition.{Sort, user, group, time, condition_of, Judge}
use Rattle.entry.specs.Field.{Entry, FieldRead, condition_part, no_field, followed, Position, first, pairs, rest, second, full_path, has_pair, pair_at, pair_of, command_of, path_field, option_or, other_of, field_of}
use Rattle.entry.specs.Entry.{fields_from, completed, entry_of}
use Rattle.reader.proofs.ShortSettings.{ShortSetting, Offers, short_option}

-- the settings of an entry
abbrev pub ShortEntry : Entry → Type 0
ShortEntry e = Each ShortSetting e.settings

abbrev ShortField : FieldRead → Type 0
ShortField x = ShortEntry x.part

each_append : {A : Type 0} (P : A → Type 0) (xs ys : List A) → Each P xs → Each P ys → Each P (xs ++ ys)
each_append P [] ys p q = q
each_append P (x ∷ xs) ys p q = (p.0, each_append P xs ys p.1 q)

short_pair : (t : List ℕ) → Gives ShortField (pair_of t)
unfolding pair_of
short_pair t = by (find_pair 58 58 0 t)
  where
    by : (p : Option ℕ) → Gives ShortField (pair_at t p)
    by None = gives_fault ShortField LatePair
    by (Some i) = gives_after ShortField (expanded Plain (take i t)) (λ e. gives_after ShortField (full_path (drop (i + 2) t)) (λ p. gives_value ShortField tt))

short_part : (k : Sort) (xs : List Judged) → ShortEntry (condition_part k xs)
short_part user xs = tt
short_part group xs = tt
short_part time xs = tt

module _ (judge : Judge) where
  short_other : (t : List ℕ) → Gives ShortField (other_of judge t)
  unfolding other_of
  short_other t = by (option_of false t) (short_option false t)
    where
      by : (o : Option (Result Setting Cause)) → Offers o → Gives ShortField (option_or judge t o)
      by None h = gives_after ShortField (condition_of judge t) (λ c. gives_value ShortField (short_part c.sort c.alternatives))
      by (Some r) h = gives_then ShortSetting ShortField r h (λ s p. gives_require ShortField (not (has_pair t)) LatePair (λ e. gives_value ShortField (p, tt)))

  short_field : (p : Position) (t : List ℕ) → Gives ShortField (field_of judge p t)
  unfolding field_of command_of path_field no_field
  short_field first t = pick_of (Gives ShortField) (has_pair t) (short_pair t) (gives_after ShortField (expanded Plain t) (λ e. gives_value ShortField tt))
  short_field pairs t = pick_of (Gives ShortField) (has_pair t) (short_pair t) (short_other t)
  short_field (second e) t = gives_require ShortField (not (has_pair t)) LatePair (λ x. gives_after ShortField (full_path t) (λ p. gives_value ShortField tt))
  short_field rest t = short_other t

  short_fields : (sc : Scope) (p : Position) (fs : List (List ℕ)) → Gives ShortEntry (fields_from judge sc p fs)
  unfolding fields_from no_field followed
  short_fields sc p [] = gives_value ShortEntry tt
  short_fields sc p (f ∷ fs) =
      gives_then ShortField ShortEntry (field_as sc (field_of judge p) f) (gives_after ShortField (field_text sc f) (short_field p)) (λ x u.
      gives_then ShortEntry ShortEntry (fields_from judge sc x.next fs) (short_fields sc x.next fs) (λ e v.
      gives_value ShortEntry (each_append ShortSetting x.part.settings e.settings u v)))

  pub short_entry : (sc : Scope) (fs : List (List ℕ)) → Gives ShortEntry (entry_of judge sc fs)
  unfolding entry_of completed
  short_entry sc fs = gives_then ShortEntry ShortEntry (fields_from judge sc first fs) (short_fields sc first fs) (λ e u. gives_require ShortEntry (not (null e.pairs) && not (null e.users)) MissingPart (λ x. gives_require ShortEntry (not (twice e.settings)) OptionTwice (λ y. gives_value ShortEntry u)))
