-- The ids that an option sets have at most 64 bytes. Assumes nothing.
use Rattle.std.specs.Option.{option_map, option_or}
use Rattle.std.specs.Prelude.{Err, None, Ok, Option, Result, Some}
use Rattle.std.specs.Str.{bytes_eq}
use Rattle.text.specs.Number.{decimal_of}
use mathlib.Core.Bool.{Bool, true, false, ◌&&◌}
use mathlib.Core.List.{List, [], ◌∷◌}
use Prim.Native.Nat.{ℕ, ◌≤◌}
use native.Mathlib.Omega.{arith}
use borrow.Author.Tests.{leb-true}
use lib.Dec.{leb}
use lib.IntN.{ℤ, pos, neg_ℤ}
use lib.ListN.{length, drop}
use Rattle.text.specs.Bytes.{bytes, byte}
use Rattle.text.specs.Class.{Range}
use Rattle.text.specs.Parts.{Parts, part_at}
use Rattle.text.specs.Slice.{starts_with}
use Rattle.text.proofs.Laws.{pick_of}
use Rattle.fault.specs.declared.Cause.{Cause}
use Rattle.fault.specs.declared.Cause.TheVariants.{IdLength, OptionName, OptionValue, PatternKind}
use Rattle.fault.specs.Fault.{needed}
use Rattle.fault.proofs.Readings.{Gives, gives_fault, gives_value, gives_after, gives_needed, gives_require, Each}
use Rattle.pattern.specs.declared.Syntax.TheVariants.{Plain}
use Rattle.pattern.specs.Tree.{expanded}
use Rattle.variables.specs.Scope.{Scope}
use Rattle.variables.specs.Substitute.{field_text}
use Rattle.options.specs.declared.Id.{Id}
use Rattle.options.specs.declared.Id.TheVariants.{Uid, Euid, Gid, Egid}
use Rattle.options.specs.Options.{Options, no_ids, no_options, over, id_or}
use Rattle.options.specs.Read.{Setting, set_id, is_id, id_of, auth_of, minutes_of, timeout_of, argument_of, number_range, last_position, most_nargs, most_minutes, most_below, option_named, option_parts, option_of, options_of}
use Rattle.reader.specs.Colon.{global_field}

-- ---- a set of options
pub record ShortIds (o : Options) : Type 0 where
  pub uid : length (id_or o.uid) ≤ 64
  pub euid : length (id_or o.euid) ≤ 64
  pub gid : length (id_or o.gid) ≤ 64
  pub egid : length (id_or o.egid) ≤ 64

short_first : (a b : Option (List ℕ)) → length (id_or a) ≤ 64 → length (id_or b) ≤ 64 → length (id_or (option_or a b)) ≤ 64
short_first None b h k = k
short_first (Some v) b h k = h

pub short_over : (a b : Options) → ShortIds a → ShortIds b → ShortIds (over a b)
unfolding over
short_over a b h k = record { uid = short_first a.uid b.uid h.uid k.uid; euid = short_first a.euid b.euid h.euid k.euid; gid = short_first a.gid b.gid h.gid k.gid; egid = short_first a.egid b.egid h.egid k.egid }

pub short_none : (a : Option Bool) (t : Option ℤ) (n : Option Range) → ShortIds (no_ids a t n)
short_none a t n = record { uid = omega arith; euid = omega arith; gid = omega arith; egid = omega arith }

-- ---- one option
abbrev pub ShortSetting : Setting → Type 0
ShortSetting s = ShortIds s.options

abbrev Short : Result Setting Cause → Type 0
Short r = Gives ShortSetting r

short_value : {s : Setting} → ShortSetting s → Short (Ok s)
short_value = gives_value ShortSetting

short_fault : (c : Cause) → Short (Err c)
short_fault = gives_fault ShortSetting

short_set : (i : Id) (v : List ℕ) → length v ≤ 64 → ShortSetting (set_id i v)
short_set Uid v h = record { uid = h; euid = omega arith; gid = omega arith; egid = omega arith }
short_set Euid v h = record { uid = omega arith; euid = h; gid = omega arith; egid = omega arith }
short_set Gid v h = record { uid = omega arith; euid = omega arith; gid = h; egid = omega arith }
short_set Egid v h = record { uid = omega arith; euid = omega arith; gid = omega arith; egid = h }

short_id : (i : Id) (v : List ℕ) → Short (id_of i v)
unfolding id_of
short_id i v = gives_require ShortSetting (leb (length v) 64) IdLength (λ e. gives_require ShortSetting (is_id v) OptionValue (λ f. short_value (short_set i v (leb-true (length v) 64 e))))

short_auth : (v : List ℕ) → Short (auth_of v)
unfolding auth_of
short_auth v = pick_of Short (bytes_eq v (bytes "y")) (short_value (short_none (Some true) None None)) (pick_of Short (bytes_eq v (bytes "n")) (short_value (short_none (Some false) None None)) (short_fault OptionValue))

short_minutes : (f : ℕ → ℤ) (most : ℕ) (n : Option ℕ) → Short (minutes_of f most n)
short_minutes f most (Some n) = gives_require ShortSetting (leb n most) OptionValue (λ e. short_value (short_none None (Some (f n)) None))
short_minutes f most None = short_fault OptionValue

short_timeout : (v : List ℕ) → Short (timeout_of v)
unfolding timeout_of
short_timeout v = pick_of Short (starts_with (bytes "-") v) (short_minutes (λ n. neg_ℤ (pos n)) most_below (decimal_of (drop 1 v))) (short_minutes pos most_minutes (decimal_of v))

-- where a text is an option
abbrev pub Offers : Option (Result Setting Cause) → Type 0
Offers None = Unit {0}
Offers (Some r) = Short r

short_argument : (v : List ℕ) (o : Option Range) → Offers (option_map (λ r. argument_of r v) o)
unfolding argument_of no_options
short_argument v None = tt
short_argument v (Some r) = gives_after ShortSetting (expanded Plain v) (λ e. short_value (short_none None None None))

short_named : (global : Bool) (n v : List ℕ) → Offers (option_named global n v)
unfolding option_named no_options
short_named global n v =
    pick_of Offers (bytes_eq n (bytes "uid")) (short_id Uid v)
    (pick_of Offers (bytes_eq n (bytes "euid")) (short_id Euid v)
    (pick_of Offers (bytes_eq n (bytes "gid")) (short_id Gid v)
    (pick_of Offers (bytes_eq n (bytes "egid")) (short_id Egid v)
    (pick_of Offers (bytes_eq n (bytes "auth")) (short_auth v)
    (pick_of Offers (bytes_eq n (bytes "timeout")) (short_timeout v)
    (pick_of Offers (bytes_eq n (bytes "nargs")) (gives_needed ShortSetting OptionValue (number_range 0 most_nargs v) (λ r. short_value (short_none None None (Some r))))
    (pick_of Offers (global && bytes_eq n (bytes "patterns")) (gives_require ShortSetting (bytes_eq v (bytes "shell")) PatternKind (λ e. short_value (short_none None None None)))
    (pick_of Offers (starts_with (bytes "arg") n) (short_argument v (number_range 1 last_position (drop 3 n)))
    tt))))))))

pub short_option : (global : Bool) (t : List ℕ) → Offers (option_of global t)
unfolding option_of
short_option global t = by (part_at (byte "=") t)
  where
    by : (p : Option Parts) → Offers (option_parts global p)
    by None = tt
    by (Some p) = short_named global p.front p.back

pub short_global : (sc : Scope) (f : List ℕ) → Short (global_field sc f)
short_global sc f = gives_after ShortSetting (field_text sc f) (λ t. by (option_of true t) (short_option true t))
  where
    by : (o : Option (Result Setting Cause)) → Offers o → Short (needed OptionName o (λ r. r))
    by None h = short_fault OptionName
    by (Some r) h = h

-- the options of a line
pub short_options : (ss : List Setting) → Each ShortSetting ss → ShortIds (options_of ss)
unfolding options_of no_options
short_options [] h = short_none None None None
short_options (s ∷ ss) h = short_over s.options (options_of ss) h.0 (short_options ss h.1)
