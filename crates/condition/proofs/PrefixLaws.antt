-- The prefix that the code tells is the definition's, and it ends within the text.
use mathlib.Core.Path.{◌≡◌}
use mathlib.Core.Bool.{Bool, true, false}
use mathlib.Core.List.{List}
use Prim.Native.Nat.{ℕ, ◌≤◌}
use native.Mathlib.Omega.{arith}
use lib.ListN.{length}
use Rattle.text.specs.Bytes.{bytes}
use Rattle.text.specs.Slice.{starts_with}
use Rattle.text.proofs.Slices.{starts_length}
use Rattle.condition.specs.declared.prefix.Asks.{Asks}
use Rattle.condition.specs.declared.prefix.Asks.TheVariants.{User, Group, Time}
use Rattle.condition.specs.Condition.{prefixed}
use Rattle.condition.specs.Contract.{prefixed_in}

abbrev Prefixes : List ℕ → Asks → Bool → ℕ → Type 0
Prefixes t a w n = (prefixed_in t (record { asks = a; written = w; at = n }) ≡ prefixed t) × (n ≤ length t)

module _ (t : List ℕ) where
  pub prefix_user : starts_with (bytes "user~") t ≡ true → Prefixes t User true 5
  unfolding prefixed
  prefix_user u = (rw u, starts_length (bytes "user~") t u)

  module _ (u : starts_with (bytes "user~") t ≡ false) where
    pub prefix_group : starts_with (bytes "group~") t ≡ true → Prefixes t Group true 6
    unfolding prefixed
    prefix_group g = (rw (u, g), starts_length (bytes "group~") t g)

    module _ (g : starts_with (bytes "group~") t ≡ false) where
      pub prefix_time : starts_with (bytes "time~") t ≡ true → Prefixes t Time true 5
      unfolding prefixed
      prefix_time m = (rw (u, g, m), starts_length (bytes "time~") t m)

      pub prefix_none : starts_with (bytes "time~") t ≡ false → Prefixes t User false 0
      unfolding prefixed
      prefix_none m = (rw (u, g, m), omega arith)
