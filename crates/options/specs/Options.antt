-- The options that hold one setting, and one set of them laid over another (01, "Options").
use Rattle.std.specs.Option.{option_or, unwrap_or}
use Rattle.std.specs.Prelude.{Bool, true, false, List, [], ℕ, ℤ, pos, None, Option, Some}
use Rattle.text.specs.Class.{Range, in_range}

-- each option is set or not
pub record Options : Type 0 where
  pub uid : Option (List ℕ)
  pub euid : Option (List ℕ)
  pub gid : Option (List ℕ)
  pub egid : Option (List ℕ)
  pub auth : Option Bool
  pub timeout : Option ℤ
  pub nargs : Option Range

-- a set that has ids only
abbrev pub ids_only : (uid euid gid egid : Option (List ℕ)) → Options
ids_only u e g h = record { uid = u; euid = e; gid = g; egid = h; auth = None; timeout = None; nargs = None }

-- a set that has no ids
abbrev pub no_ids : Option Bool → Option ℤ → Option Range → Options
no_ids a t n = record { uid = None; euid = None; gid = None; egid = None; auth = a; timeout = t; nargs = n }

-- no option is set
unfoldable pub no_options : Options
no_options = no_ids None None None

-- local overrides global: what the first set has, else what the second has
unfoldable pub over : Options → Options → Options
over a b = record {
  uid = option_or a.uid b.uid;
  euid = option_or a.euid b.euid;
  gid = option_or a.gid b.gid;
  egid = option_or a.egid b.egid;
  auth = option_or a.auth b.auth;
  timeout = option_or a.timeout b.timeout;
  nargs = option_or a.nargs b.nargs;
}

-- "an option that is not set gives an empty string"
abbrev pub id_or : Option (List ℕ) → List ℕ
id_or o = unwrap_or o []

-- unset auth is n
abbrev pub auth_or : Option Bool → Bool
auth_or o = unwrap_or o false

-- an unset timeout counts as 0
abbrev pub timeout_or : Option ℤ → ℤ
timeout_or o = unwrap_or o (pos 0)

-- nargs: any number of arguments where it is unset
unfoldable pub nargs_allow : Option Range → ℕ → Bool
nargs_allow None n = true
nargs_allow (Some r) n = in_range r n
