-- What the values of the code stand for, and what is kept of a line's settings while its fields are read: cited by contracts and proofs only.
use Rattle.std.specs.List.{list_all, list_any}
use Rattle.std.specs.Option.{option_map}
use denote.Ref.{Bor}
use Rattle.std.specs.Prelude.{Bool, true, false, not, cond, ◌||◌, List, [], ◌∷◌, ℕ, zero, suc, ◌+◌, ltb, take, get_or, set, Err, None, Ok, Option, Result, Some}
use Rattle.text.specs.Bytes.{byte}
use Rattle.text.specs.Class.{Range, range}
use Rattle.text.specs.Parts.{Parts, part_at}
use Rattle.fault.specs.declared.Cause.{Cause}
use Rattle.pattern.specs.declared.Syntax.TheVariants.{Plain}
use Rattle.pattern.specs.Whole.{expansions_of}
use Rattle.matching.specs.Whole.{field_expansions}
use Rattle.options.specs.declared.Id.{Id}
use Rattle.options.specs.declared.Id.TheVariants.{Uid, Euid, Gid, Egid}
use Rattle.options.specs.declared.ids.IdName.{IdName}
use Rattle.options.specs.declared.line.LineOptions.{LineOptions}
use Rattle.options.specs.declared.setting.OptionSetting.{OptionSetting}
use Rattle.options.specs.declared.setting.OptionSetting.TheVariants.{SetId, SetAuth, SetTimeout, SetNargs, SetArgument, SetShell}
use Rattle.options.specs.declared.set.OptionSet.{OptionSet}
use Rattle.options.specs.declared.span.Span.{Span}
use Rattle.options.specs.Options.{Options}
use Rattle.options.specs.Arguments.{ArgumentPattern, passes}
use Rattle.options.specs.Read.{Setting, id_limit, last_position, set_id, set_auth, set_timeout, set_nargs, set_shell, set_argument, is_option, twice}

-- the range that a span is
abbrev pub span_in : Span → Range
span_in s = range s.low s.high

-- the bytes of a name
unfoldable pub id_in : IdName → List ℕ
id_in n = take n.size n.bytes

-- the meaning's set of the set by value
unfoldable pub options_in : OptionSet → Options
options_in o = record {
  uid = option_map id_in o.uid;
  euid = option_map id_in o.euid;
  gid = option_map id_in o.gid;
  egid = option_map id_in o.egid;
  auth = o.auth;
  timeout = o.timeout;
  nargs = option_map span_in o.nargs;
}

-- one of the four ids of a set
abbrev pub id_at : Options → Id → Option (List ℕ)
id_at o Uid = o.uid
id_at o Euid = o.euid
id_at o Gid = o.gid
id_at o Egid = o.egid

-- a text parted around a byte
abbrev pub parts_in : Option (Bor (List ℕ) × Bor (List ℕ)) → Option Parts
parts_in None = None
parts_in (Some p) = Some (record { front = p.0.now; back = p.1.now })

-- what stands behind the byte that parts
abbrev pub back_of : Option Parts → List ℕ
back_of None = []
back_of (Some p) = p.back

-- the value of a field's text: what stands just behind its first `=`
unfoldable pub value_in : List ℕ → List ℕ
value_in t = back_of (part_at (byte "=") t)

-- the setting that was read, by the value in its text: an id has at most 64 bytes, and a pattern's expansions are those of the value
abbrev pub setting_in : List ℕ → OptionSetting → Setting
setting_in v (SetId i) = set_id i (take id_limit v)
setting_in v (SetAuth b) = set_auth b
setting_in v (SetTimeout m) = set_timeout m
setting_in v (SetNargs s) = set_nargs (span_in s)
setting_in v (SetArgument s) = set_argument (span_in s) (expansions_of Plain v)
setting_in v SetShell = set_shell

-- the setting that was read of that value, or its fault
abbrev pub set_in : List ℕ → Result OptionSetting Cause → Result Setting Cause
set_in v (Err c) = Err c
set_in v (Ok s) = Ok (setting_in v s)

-- what was read of a text with that value: none where it is no option
abbrev pub read_in : List ℕ → Result (Option OptionSetting) Cause → Option (Result Setting Cause)
read_in v (Err c) = Some (Err c)
read_in v (Ok None) = None
read_in v (Ok (Some s)) = Some (Ok (setting_in v s))

-- the number of an option that may not stand twice
abbrev pub once : ℕ → Option ℕ
once k = cond (ltb k 8) (Some k) None

-- which of n options, from number k on, stand among the settings
unfoldable pub standing : ℕ → ℕ → List Setting → List Bool
standing zero k ss = []
standing (suc n) k ss = list_any (is_option k) ss ∷ standing n (k + 1) ss

-- what is kept of a line's settings to see that none stands twice
unfoldable pub line_of : List Setting → LineOptions
line_of ss = record { stands = standing 8 0 ss; twice = twice ss }

-- the same with one more setting
unfoldable pub noted : LineOptions → Setting → LineOptions
noted l s = record { stands = set l.stands s.which true; twice = l.twice || get_or l.stands s.which false }

-- a pattern as written, for a range of positions, as the matcher takes it: none of its expansions where it is longer than a field
abbrev pub pattern_at : Range → List ℕ → ArgumentPattern
pattern_at r p = record { positions = r; expansions = field_expansions Plain p }

-- which of n positions, from i on, have an argument that fails a pattern; a position without an argument does not
unfoldable pub failures_from : ℕ → ℕ → List ArgumentPattern → List (List ℕ) → List Bool
failures_from zero i ps xs = []
failures_from (suc n) i ps [] = false ∷ failures_from n (i + 1) ps []
failures_from (suc n) i ps (a ∷ xs) = not (list_all (passes i a) ps) ∷ failures_from n (i + 1) ps xs

-- what is kept of the patterns in force: the failures among the positions that a pattern can cover
unfoldable pub failures : List ArgumentPattern → List (List ℕ) → List Bool
failures ps xs = failures_from last_position 1 ps xs

-- the failures from position i on with those of one more pattern
unfoldable pub failures_with : ℕ → ArgumentPattern → List (List ℕ) → List Bool → List Bool
failures_with i p xs [] = []
failures_with i p [] (f ∷ fs) = f ∷ fs
failures_with i p (a ∷ xs) (f ∷ fs) = (f || not (passes i a p)) ∷ failures_with (i + 1) p xs fs

-- the same with those of a setting, by its value: nothing where it is no argument pattern
abbrev pub failures_after : List ℕ → OptionSetting → List (List ℕ) → List Bool → List Bool
failures_after v (SetId i) xs fs = fs
failures_after v (SetAuth b) xs fs = fs
failures_after v (SetTimeout m) xs fs = fs
failures_after v (SetNargs s) xs fs = fs
failures_after v (SetArgument s) xs fs = failures_with 1 (pattern_at (span_in s) v) xs fs
failures_after v SetShell xs fs = fs
