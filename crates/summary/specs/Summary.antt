-- What a log comes to, and the lines that `supertab --figures` prints of it (02 (x)): "plain text, one figure a line, names first".
use Rattle.std.specs.Prelude.{ℕ, min, ◌*◌, ◌-◌, ◌/◌, ◌%◌, Bool, cond, List, [], ◌∷◌, ◌++◌, eqb, length, take, drop}
use Rattle.text.specs.Bytes.{bytes}
use Rattle.output.specs.Decimal.{decimal}
use Rattle.record.specs.Layout.{record_length}
use Rattle.figures.specs.declared.Figures.{Figures}
use Rattle.figures.specs.Figures.{record_limit, records_of, figures_of}
use Rattle.figures.specs.Feed.{first_records}
use Rattle.summary.specs.Bar.{largest_of, bar_text}
use Rattle.summary.specs.declared.lines.Summary.{Summary}

-- the most that a u64 holds
abbrev pub most_of_u64 : ℕ
most_of_u64 = 18446744073709551615

-- what the bytes of a log come to: "Only whole records are fed", as far as the limit
unfoldable pub log_summary : List ℕ → Summary
log_summary s = record {
  figures = figures_of (first_records (records_of s));
  past = min (length s / record_length - record_limit) most_of_u64;
  left = length s % record_length;
}

-- the columns of a name
abbrev pub name_length : ℕ
name_length = 20

-- a line for each count: its name of twenty columns, the count, and its bar beside the largest
unfoldable pub counts_text : List ℕ → List ℕ → ℕ → List ℕ
counts_text names [] most = []
counts_text names (n ∷ counts) most = take name_length names ++ decimal n ++ bar_text n most ++ bytes "\n" ++ counts_text (drop name_length names) counts most

-- bars are drawn beside the largest count, where they are wanted
unfoldable pub largest_shown : Bool → List ℕ → ℕ
largest_shown bars counts = cond bars (largest_of counts) 0

-- a line of a name and a figure
unfoldable pub row_text : List ℕ → ℕ → List ℕ
row_text name figure = name ++ decimal figure ++ bytes "\n"

-- the names, as the program prints the answers, twenty columns each
abbrev pub decision_names : List ℕ
decision_names = bytes "permit              password            none                stopped-nargs       stopped-arg         stopped-path        "

abbrev pub refusal_names : List ℕ
refusal_names =
    bytes "refused-11          refused-12          refused-13          refused-14          refused-15          refused-16          refused-17          refused-18          refused-19          refused-20          refused-21          refused-22          refused-23          "

abbrev pub weekday_names : List ℕ
weekday_names = bytes "Monday              Tuesday             Wednesday           Thursday            Friday              Saturday            Sunday              "

abbrev pub hour_names : List ℕ
hour_names =
    bytes "hour-0              hour-1              hour-2              hour-3              hour-4              hour-5              hour-6              hour-7              hour-8              hour-9              hour-10             hour-11             hour-12             hour-13             hour-14             hour-15             hour-16             hour-17             hour-18             hour-19             hour-20             hour-21             hour-22             hour-23             "

-- "answers with their words": 0 to 5, and 11 to 23
unfoldable pub answers_text : Figures → List ℕ
answers_text f = counts_text decision_names (take 6 f.answers) 0 ++ counts_text refusal_names (take 13 (drop 11 f.answers)) 0

-- "weekdays"
unfoldable pub days_text : Figures → Bool → List ℕ
days_text f bars = counts_text weekday_names f.weekdays (largest_shown bars f.weekdays)

-- "hours"
unfoldable pub hours_text : Figures → Bool → List ℕ
hours_text f bars = counts_text hour_names f.hours (largest_shown bars f.hours)

-- the sum of the ages below zero, with its sign
unfoldable pub below_text : ℕ → List ℕ
below_text below = cond (eqb below 0) (row_text (bytes "below-zero-sum      ") 0) (row_text (bytes "below-zero-sum      -") below)

-- "the mean is rounded down to a tenth, `-` where there is none"
unfoldable pub mean_text : (sum count : ℕ) → List ℕ
mean_text sum count =
    cond (eqb count 0) (bytes "age-mean            -\n")
    (bytes "age-mean            " ++ decimal (sum / count) ++ bytes "." ++ decimal (sum % count * 10 / count) ++ bytes "\n")

-- "ages, mean to a tenth"
unfoldable pub ages_text : Figures → List ℕ
ages_text f =
    below_text f.below ++ row_text (bytes "age-sum             ") f.sum ++ row_text (bytes "age-count           ") f.ages ++ mean_text f.sum f.ages

-- "refused, given"; "bytes left at the end and records past the limit are told on lines of their own"
unfoldable pub records_text : Summary → List ℕ
records_text s =
    row_text (bytes "records-refused     ") s.figures.refused
    ++ row_text (bytes "records-given       ") s.figures.given
    ++ row_text (bytes "records-past-limit  ") s.past
    ++ row_text (bytes "bytes-left          ") s.left

-- all lines
unfoldable pub summary_text : Summary → Bool → List ℕ
summary_text s bars = answers_text s.figures ++ days_text s.figures bars ++ hours_text s.figures bars ++ ages_text s.figures ++ records_text s
