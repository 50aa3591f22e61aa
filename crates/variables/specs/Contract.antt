-- What only contracts and proofs cite: the variables in their arrays, and what the steps of reading a field do.
use Rattle.std.specs.Str.{bytes_eq}
use Rattle.std.specs.List.{list_all}
use Rattle.std.specs.Prelude.{◌≡◌, Bool, true, not, cond, ◌&&◌, List, [], ◌∷◌, ◌++◌, ℕ, zero, suc, ◌+◌, ◌*◌, ◌-◌, ◌≤◌, ◌<◌, min, leb, length, set, take, drop, get_or, Err, None, Ok, Option, Result, Some}
use Rattle.text.specs.Buffer.{laid}
use Rattle.text.specs.Limits.{field_limit}
use Rattle.text.specs.Quote.{quoting_after}
use Rattle.text.specs.declared.quote.Quoting.{Quoting}
use Rattle.text.specs.declared.quote.Quoting.TheVariants.{Outside}
use Rattle.fault.specs.declared.Cause.{Cause}
use Rattle.fault.specs.declared.Cause.TheVariants.{FieldLength}
use Rattle.variables.specs.declared.Variables.{Variables}
use Rattle.variables.specs.declared.DefinePlace.{DefinePlace}
use Rattle.variables.specs.declared.field.TextRun.{TextRun}
use Rattle.variables.specs.declared.field.NamePlace.{NamePlace}
use Rattle.variables.specs.declared.field.Referred.{Referred}
use Rattle.variables.specs.Scope.{Definition, definition, Scope, name_text}
use Rattle.variables.specs.Define.{name_limit, text_limit, names_limit, define_in}
use Rattle.variables.specs.Substitute.{Substitution, substitution, stays, refers, reference, substitute, substituted, field_text}

-- ---- the variables in their arrays
-- the bytes of a place: those of its name, and behind them those of its text
abbrev pub place_bytes : ℕ
place_bytes = 320

-- the name and the text at a place
unfoldable pub name_at : List ℕ → List ℕ → ℕ → List ℕ
name_at bytes sizes i = take (min (get_or sizes (i * 2) 0) name_limit) (drop (i * place_bytes) bytes)

unfoldable pub text_at : List ℕ → List ℕ → ℕ → List ℕ
text_at bytes sizes i = take (min (get_or sizes (i * 2 + 1) 0) text_limit) (drop (i * place_bytes + name_limit) bytes)

abbrev pub definition_at : List ℕ → List ℕ → ℕ → Definition
definition_at bytes sizes i = definition (name_at bytes sizes i) (text_at bytes sizes i)

-- what stands at n places from i on
unfoldable pub places_from : (ℕ → Definition) → ℕ → ℕ → List Definition
places_from f zero i = []
places_from f (suc n) i = f i ∷ places_from f n (i + 1)

-- what stands at the first places
unfoldable pub definitions_in : List ℕ → List ℕ → ℕ → List Definition
unfolding name_at text_at places_from
definitions_in bytes sizes count = places_from (definition_at bytes sizes) (min count names_limit) 0

abbrev pub definitions_of : Variables → List Definition
definitions_of v = definitions_in v.bytes v.sizes v.count

-- the scope of the question and these variables
abbrev pub scope_in : List ℕ → List ℕ → List ℕ → List ℕ → ℕ → Scope
scope_in caller host bytes sizes count = record { caller = caller; host = host; definitions = definitions_in bytes sizes count }

-- the place of a name, counted from i
unfoldable pub defined_at : ℕ → List ℕ → List Definition → Option ℕ
defined_at i n [] = None
defined_at i n (d ∷ ds) = cond (bytes_eq d.name n) (Some i) (defined_at (i + 1) n ds)

-- the bytes with a name and a text at a place, and likewise their sizes; as they were where there is no such place
unfoldable pub bytes_with : List ℕ → ℕ → List ℕ → List ℕ → List ℕ
bytes_with bytes at name text = cond (leb names_limit at) bytes (laid (laid bytes (at * place_bytes) name) (at * place_bytes + name_limit) text)

unfoldable pub sizes_with : List ℕ → ℕ → ℕ → ℕ → List ℕ
sizes_with sizes at name text = cond (leb names_limit at) sizes (set (set sizes (at * 2) name) (at * 2 + 1) text)

-- the variables with a name and its text at a place, and so many names
abbrev pub stored_at : Variables → ℕ → ℕ → List ℕ → List ℕ → Variables
stored_at v at names name text = record { bytes = bytes_with v.bytes at name text; sizes = sizes_with v.sizes at (length name) (length text); count = names }

-- one place was written, and the others stay
pub record Stores (bytes sizes : List ℕ) (at : ℕ) (d : Definition) (new_bytes new_sizes : List ℕ) : Type 0 where
  pub here : definition_at new_bytes new_sizes at ≡ d
  pub others : (j : ℕ) → (j ≡ at → ⊥) → definition_at new_bytes new_sizes j ≡ definition_at bytes sizes j

-- ---- a definition
-- what a check of a name or a text tells
abbrev pub checked_reading : (Result Unit Cause) → List ℕ → Result (List ℕ) Cause
checked_reading (Ok tt) s = Ok s
checked_reading (Err c) s = Err c

-- why a name has no place, whatever its text, or: whoever stores the name with a text at the place has the variables with them
abbrev pub GoesIn : List ℕ → List ℕ → ℕ → List ℕ → Result DefinePlace Cause → Type 0
GoesIn bytes sizes count name (Err c) = (text : List ℕ) → define_in (definition name text) (definitions_in bytes sizes count) ≡ Err c
GoesIn bytes sizes count name (Ok p) = (p.place < names_limit) × ((text new_bytes new_sizes : List ℕ) → Stores bytes sizes p.place (definition name text) new_bytes new_sizes → define_in (definition name text) (definitions_in bytes sizes count) ≡ Ok (definitions_in new_bytes new_sizes p.names))

pub record Goes (bytes sizes : List ℕ) (count : ℕ) (name : List ℕ) (r : Result DefinePlace Cause) : Type 0 where
  pub goes : GoesIn bytes sizes count name r

-- ---- a field's text
-- a byte that stands for itself outside quotes: no quote and no `$`
unfoldable pub literal : ℕ → Bool
unfolding stays refers
literal b = stays Outside b && not (refers Outside b)

-- a field of such bytes: it is its own text, whatever the variables are
unfoldable pub verbatim : List ℕ → Bool
unfolding literal
verbatim f = list_all literal f

-- the text up to a bad `$`, of the bytes behind n that are taken
abbrev pub text_then : Option Substitution → (Substitution → List ℕ) → List ℕ
text_then None f = []
text_then (Some x) f = x.text ++ f x

unfoldable pub up_to_bad : Scope → Quoting → ℕ → List ℕ → List ℕ
up_to_bad s q n [] = []
up_to_bad s q (suc n) (b ∷ r) = up_to_bad s q n r
up_to_bad s q zero (b ∷ r) = text_then (substitute (refers q b) s q b r) (λ x. up_to_bad s (quoting_after q b) x.taken r)

-- what an answer says, with the text at the buffer's beginning
abbrev pub text_reading : List ℕ → (Result ℕ Cause) → Result (List ℕ) Cause
text_reading out (Ok n) = Ok (take n out)
text_reading out (Err c) = Err c

abbrev pub length_told : (Result ℕ Cause) → ℕ
length_told (Ok n) = n
length_told (Err c) = 0

-- the answer is the field's text; the buffer begins with that text, up to a bad `$` and as far as it fits, and the rest of it stays
pub record Substitutes (s : Scope) (f old new : List ℕ) (r : (Result ℕ Cause)) : Type 0 where
  pub reading : text_reading new r ≡ field_text s f
  pub buffer : new ≡ laid old 0 (up_to_bad s Outside 0 f)
  pub fits : length_told r ≤ field_limit

-- ---- the steps
-- how many bytes of text there are, up to one past the limit
abbrev pub count_told : Option ℕ → ℕ
count_told (Some m) = m
count_told None = field_limit + 1

-- xs was laid behind the first n bytes, and r counts them all, up to one past the limit
pub record Lays (old new : List ℕ) (n : ℕ) (xs : List ℕ) (r : ℕ) : Type 0 where
  pub count : r ≡ min (n + length xs) (field_limit + 1)
  pub bytes : new ≡ laid old n xs

-- the answer where n bytes of text stand in front
abbrev pub answer_from : ℕ → Result (List ℕ) Cause → (Result ℕ Cause)
answer_from n (Err c) = Err c
answer_from n (Ok t) = cond (leb (n + length t) field_limit) (Ok (n + length t)) (Err FieldLength)

-- a text, or what there is of it, was laid behind the first n bytes, and r is the answer
pub record Completes (old new : List ℕ) (n : ℕ) (t : Result (List ℕ) Cause) (xs : List ℕ) (r : (Result ℕ Cause)) : Type 0 where
  pub answer : r ≡ answer_from n t
  pub bytes : new ≡ laid old n xs

-- the text of the field's bytes f was
abbrev pub Writes : Scope → Quoting → List ℕ → List ℕ → List ℕ → ℕ → (Result ℕ Cause) → Type 0
Writes s q f old new n r = Completes old new n (substituted s q 0 f) (up_to_bad s q 0 f) r

-- the bytes from `at` up to a reference or the end were laid: whoever writes the text from there on has written all of it
pub record TextRuns (f : List ℕ) (at : ℕ) (q : Quoting) (n : ℕ) (old new : List ℕ) (r : TextRun) : Type 0 where
  pub low : at ≤ r.at
  pub high : r.at ≤ length f
  pub small : r.count ≤ field_limit + 1
  pub size : length new ≡ field_limit
  pub stops : r.at < length f → refers r.quoting (get_or f r.at 0) ≡ true
  pub onward : (s : Scope) (last : List ℕ) (a : (Result ℕ Cause)) → Writes s r.quoting (drop r.at f) new last r.count a → Writes s q (drop at f) old last n a

-- the reference at a place of r
abbrev pub reference_at : Scope → List ℕ → Option NamePlace → Option Substitution
reference_at s r None = None
reference_at s r (Some p) = substitution p.taken (name_text s (take (p.end - p.start) (drop p.start r)))

-- the place lies in r
abbrev pub PlacedIn : List ℕ → Option NamePlace → Type 0
PlacedIn r None = Unit {0}
PlacedIn r (Some p) = (p.start ≤ p.end) × (p.end ≤ length r) × (p.taken ≤ length r)

-- the reference that the bytes behind `$` begin with
pub record Places (r : List ℕ) (p : Option NamePlace) : Type 0 where
  pub refer : (s : Scope) → reference_at s r p ≡ reference s r
  pub inside : PlacedIn r p

-- the text that stands for a reference, and nothing where it is bad
abbrev pub text_in : Option Substitution → List ℕ
text_in None = []
text_in (Some x) = x.text

abbrev pub referred_from : ℕ → Option Substitution → Option Referred
referred_from n None = None
referred_from n (Some x) = Some (record { taken = x.taken; count = min (n + length x.text) (field_limit + 1) })

abbrev pub taken_told : Option Referred → ℕ
taken_told None = 0
taken_told (Some a) = a.taken

-- the text of a reference was laid behind the first n bytes, and counted, where it is good
pub record Refers (o : Option Substitution) (n : ℕ) (old new : List ℕ) (r : Option Referred) : Type 0 where
  pub answer : r ≡ referred_from n o
  pub bytes : new ≡ laid old n (text_in o)

-- the same of the reference that some bytes begin with, which takes no more of them than there are
pub record PutsReference (s : Scope) (rest : List ℕ) (n : ℕ) (old new : List ℕ) (r : Option Referred) : Type 0 where
  pub put : Refers (reference s rest) n old new r
  pub within : taken_told r ≤ length rest
