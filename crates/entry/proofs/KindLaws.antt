-- What a field is, by where it stands and where its first `::` is.
use Rattle.std.specs.Prelude.{None, Option, Some}
use mathlib.Core.Path.{◌≡◌, refl}
use Prim.Native.Nat.{ℕ}
use Rattle.text.proofs.Laws.{clash}
use Rattle.entry.specs.declared.position.Position.{Position}
use Rattle.entry.specs.declared.position.Position.TheVariants.{First, Second, Pairs, Rest}
use Rattle.entry.specs.declared.position.FieldKind.TheVariants.{Pair, Command, Path, Other}
use Rattle.entry.specs.Contract.{kind_by}

-- what was found of it tells what it is
pub kind_told : {d q : Position} {f g : Option ℕ} → q ≡ d → g ≡ f → kind_by d f ≡ kind_by q g
kind_told e h = rw (e, h)

-- a pair has `::`
pub pair_found : (d : Position) (f : Option ℕ) {i : ℕ} → kind_by d f ≡ Pair i → f ≡ Some i
pair_found First (Some m) e = cc
pair_found First None e = clash cc
pair_found Second f e = clash cc
pair_found Pairs (Some m) e = cc
pair_found Pairs None e = clash cc
pair_found Rest f e = clash cc

-- a command pattern alone is the first field, and has none
pub command_found : (d : Position) (f : Option ℕ) → kind_by d f ≡ Command → (d ≡ First) × (f ≡ None)
command_found First (Some m) e = clash cc
command_found First None e = (refl, refl)
command_found Second f e = clash cc
command_found Pairs (Some m) e = clash cc
command_found Pairs None e = clash cc
command_found Rest f e = clash cc

-- a path alone stands behind it
pub path_found : (d : Position) (f : Option ℕ) → kind_by d f ≡ Path → d ≡ Second
path_found First (Some m) e = clash cc
path_found First None e = clash cc
path_found Second f e = refl
path_found Pairs (Some m) e = clash cc
path_found Pairs None e = clash cc
path_found Rest f e = clash cc

-- an option or a condition is not the first field, and behind pairs it has no `::`
pub no_other_first : (f : Option ℕ) → kind_by First f ≡ Other → ◌≡◌ {A = ℕ} 0 1
no_other_first (Some m) e = cc
no_other_first None e = cc

pub other_found : (f : Option ℕ) → kind_by Pairs f ≡ Other → f ≡ None
other_found (Some m) e = clash cc
other_found None e = refl
