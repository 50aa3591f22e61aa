-- The word of a line with a colon, by the tests of its text.
use Rattle.std.specs.Prelude.{Err, Ok}
use Rattle.std.specs.Str.{bytes_eq}
use mathlib.Core.Path.{◌≡◌}
use mathlib.Core.Bool.{true, false}
use mathlib.Core.List.{List}
use Prim.Native.Nat.{ℕ}
use Rattle.text.specs.Bytes.{bytes}
use Rattle.fault.specs.declared.Cause.TheVariants.{ColonWord}
use Rattle.reader.specs.declared.word.ColonWord.TheVariants.{Define, Global, If}
use Rattle.reader.specs.Colon.{word_of}

-- word by word in the order of the tests
module _ (w : List ℕ) where
  pub word_define : bytes_eq w (bytes ":define") ≡ true → Ok Define ≡ word_of w
  unfolding word_of
  word_define d = rw d

  module _ (d : bytes_eq w (bytes ":define") ≡ false) where
    pub word_global : bytes_eq w (bytes ":global") ≡ true → Ok Global ≡ word_of w
    unfolding word_of
    word_global g = rw (d, g)

    module _ (g : bytes_eq w (bytes ":global") ≡ false) where
      pub word_options : bytes_eq w (bytes ":global_options") ≡ true → Ok Global ≡ word_of w
      unfolding word_of
      word_options h = rw (d, g, h)

      module _ (h : bytes_eq w (bytes ":global_options") ≡ false) where
        pub word_if : bytes_eq w (bytes ":if") ≡ true → Ok If ≡ word_of w
        unfolding word_of
        word_if i = rw (d, g, h, i)

        pub word_other : bytes_eq w (bytes ":if") ≡ false → Err ColonWord ≡ word_of w
        unfolding word_of
        word_other i = rw (d, g, h, i)
