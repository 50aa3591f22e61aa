-- What a batch does (02 (x)).
use Rattle.std.specs.Prelude.{ℕ, ◌-◌, ◌/◌, ◌%◌, cond, List, ◌++◌, eqb, leb, length, take, None, Option, Some, Result, Ok, Err}
use Rattle.record.specs.Layout.{record_length}
use Rattle.figures.specs.declared.FeedFault.{FeedFault}
use Rattle.figures.specs.declared.FeedFault.TheVariants.{NotWhole, PastLimit}
use Rattle.figures.specs.Figures.{record_limit, records_of}

-- "1, a whole batch whose bytes are no multiple of eight; 2, with how many, each record past the limit"; 1 also past the limit
unfoldable pub feed_answer : (given bytes : ℕ) → Result Unit FeedFault
feed_answer given bytes =
    cond (eqb (bytes % record_length) 0)
    (cond (leb (bytes / record_length) (record_limit - given)) (Ok tt)
    (Err (PastLimit (bytes / record_length - (record_limit - given)))))
    (Err NotWhole)

-- the records up to the limit
unfoldable pub first_records : List (List ℕ) → List (List ℕ)
first_records rs = take record_limit rs

-- the records that count after a batch: "the batch's earlier ones count. What 1 and 2 refuse is not among those given"
unfoldable pub records_after : List (List ℕ) → List ℕ → List (List ℕ)
records_after rs batch = cond (eqb (length batch % record_length) 0) (first_records (rs ++ records_of batch)) rs

-- the number of an answer, 0 for no refusal, and how many records lie past the limit where the batch was looked at
pub record BatchTold : Type 0 where
  pub number : ℕ
  pub past : Option ℕ

unfoldable pub feed_told : Result Unit FeedFault → BatchTold
feed_told (Ok done) = record { number = 0; past = Some 0 }
feed_told (Err NotWhole) = record { number = 1; past = None }
feed_told (Err (PastLimit n)) = record { number = 2; past = Some n }
