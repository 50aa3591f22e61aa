-- A file that is looked at block by block before records are appended to it.
use Rattle.std.proofs.Common.{◌≡◌, ℕ, ◌%◌, ◌≤◌, true, eqb, List, length, take, sym, ◌∙◌, arith, length-append, length-take}
use borrow.Author.Tests.{eqb-true}
use Rattle.record_log.specs.declared.opening.Looking.{Looking}
use Rattle.record_log.specs.Contract.{Looks, LooksOn}

-- the first bytes of a block of whole records, which stand behind whole records, were looked at
pub looks_on : {before after : Looking} (block : List ℕ) (n : ℕ) → n ≤ length block → length block % 8 ≡ 0 → before.going ≡ true
    → Looks (take n block) before.seen after.seen → after.going ≡ eqb n (length block) → LooksOn (take n block) (length block) before after
looks_on {before} {after} block n h w going t e =
    let k : length (take n block) ≡ n = rw (length-take n block) (omega arith) in
    record {
      looked = λ bytes g. record {
        seen = t bytes (g.whole going) g.seen;
        whole = λ f. let a = eqb-true n (length block) (sym e ∙ f) in let b = g.whole going in rw (length-append bytes (take n block), k) (omega arith);
      };
      going = rw k e;
    }
