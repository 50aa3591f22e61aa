-- The question, and when it is as 01 ("The question") wants it.
use Rattle.std.specs.Option.{option_and_then}
use Rattle.question.specs.declared.Age.{Age}
use Rattle.std.specs.Str.{bytes_eq}
use Rattle.std.specs.List.{list_all, slice_split}
use Rattle.std.specs.Prelude.{ℕ, Bool, not, cond, ◌&&◌, ◌||◌, List, leb, ltb, length, None, Option, Some}
use Rattle.text.specs.Bytes.{byte, bytes, is}
use Rattle.text.specs.Lists.{null}
use Rattle.text.specs.Class.{within, name_byte, printable, command_byte}
use Rattle.text.specs.Slice.{head_is}
use Rattle.question.specs.declared.WeekMinute.{WeekMinute}
unfoldable pub use Rattle.question.specs.Strings.{strings_of}

-- what is asked, as lists of bytes
pub record Question : Type 0 where
  pub command : List ℕ
  pub user : List ℕ
  pub groups : List (List ℕ)
  pub host : List ℕ
  pub minute : ℕ
  pub age : (Option Age)
  pub args : List (List ℕ)

-- the same question from another host
abbrev pub with_host : List ℕ → Question → Question
with_host host q = record { command = q.command; user = q.user; groups = q.groups; host = host; minute = q.minute; age = q.age; args = q.args }

-- the most bytes of a command
abbrev pub command_bytes : ℕ
command_bytes = 256

-- the most bytes of a user, and of a group
abbrev pub user_bytes : ℕ
user_bytes = 32

-- the most bytes of a host
abbrev pub host_bytes : ℕ
host_bytes = 255

-- the most groups
abbrev pub most_groups : ℕ
most_groups = 32

-- the most bytes of an argument
abbrev pub argument_bytes : ℕ
argument_bytes = 256

-- the most arguments
abbrev pub most_arguments : ℕ
most_arguments = 64

-- the minutes of a week
abbrev pub week_minutes : ℕ
week_minutes = 10080

-- "no component between slashes that is empty, `.` or `..`"
unfoldable pub good_component : List ℕ → Bool
good_component p = not (null p || (bytes_eq p (bytes ".") || bytes_eq p (bytes "..")))

-- "1 to 256 bytes from 0x21 to 0x7E, no `:`; not beginning with `/`"; all pieces that slashes make count, first and last too
unfoldable pub good_command : List ℕ → Bool
unfolding command_byte head_is good_component
good_command c =
    within 1 command_bytes (length c)
    && (list_all command_byte c
    && (not (head_is (byte "/") c)
    && list_all good_component (slice_split (is "/") c)))

-- 1 to `most` bytes of letters, digits, `.`, `_`, `-`: "user: 1 to 32", "up to 32 groups of the same form", "host: .. 1 to 255 bytes"
unfoldable pub good_name : ℕ → List ℕ → Bool
unfolding name_byte
good_name most s = within 1 most (length s) && list_all name_byte s

-- "0 to 256 bytes from 0x20 to 0x7E"
unfoldable pub good_argument : List ℕ → Bool
unfolding printable
good_argument a = leb (length a) argument_bytes && list_all printable a

-- up to `most` strings, each good: "up to 32 groups", "up to 64 arguments"
unfoldable pub good_strings : ℕ → (List ℕ → Bool) → List (List ℕ) → Bool
good_strings most good ps = leb (length ps) most && list_all good ps

-- all that 01 asks of a question; "minute of the week, 0 to 10,079"; any age is good
unfoldable pub good_question : Question → Bool
unfolding good_command good_name good_argument good_strings
good_question q =
    good_command q.command
    && (good_name user_bytes q.user
    && (good_strings most_groups (good_name user_bytes) q.groups
    && (good_name host_bytes q.host
    && (ltb q.minute week_minutes
    && good_strings most_arguments good_argument q.args))))

-- the question, if it is good
abbrev pub if_good : Question → Option Question
if_good q = cond (good_question q) (Some q) None

-- what a caller's bytes ask; none is refusal 10, "question not as above"
unfoldable pub question_of : (command user groups host : List ℕ) → (minute : WeekMinute) → (age : (Option Age)) → (args : List ℕ) → Option Question
unfolding good_question strings_of
question_of command user groups host minute age args =
    option_and_then (λ gs. option_and_then (λ xs.
    if_good (record { command = command; user = user; groups = gs; host = host; minute = minute.0; age = age; args = xs })) (strings_of args)) (strings_of groups)
