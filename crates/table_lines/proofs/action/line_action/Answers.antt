use mathlib.Core.Path.{◌≡◌, refl}
use borrow.Author.Rules.{rules}
use lib.ListN.{length}
use Rattle.std.specs.Prelude.{Err, Ok}
use Rattle.std.proofs.lemmas.Result.{err_from_is_err_and}
use Rattle.line.proofs.ScanLaws.{scans_length, scans_fault}
use Rattle.reader.specs.declared.control_line.Action.TheVariants.{Nothing, Define, Global}
use Rattle.table_lines.proofs.ActionLaws.{ends_kept, scanned_fields, empty_nothing, scan_fault, line_acted, entry_fault, entry_passed, entry_decides}
use Rattle.table_lines.proofs.action.line_action.Goals as goal

pub returns-then-is_empty : goal.returns-then-is_empty
returns-then-is_empty c = let z : length c.args.line.now ≡ 0 = search rules in record { room = refl; places = refl; does = λ t d q k s h l b. empty_nothing k h l b z }

pub returns-in_err-count : goal.returns-in_err-count
returns-in_err-count c = let p = err_from_is_err_and c.from_residual.result c.from_residual.ensures.1 in rw (p.1, p.2) record { room = scans_length c.scan_line.ensures; places = ends_kept c.scan_line.ensures; does = λ t d q k s h l b. scan_fault k h l b (scans_fault c.scan_line.ensures c.in_err-count.was) }

pub returns-in_err-action : goal.returns-in_err-action
returns-in_err-action c = let p = err_from_is_err_and c.from_residual-in_err-action.result c.from_residual-in_err-action.ensures.1 in rw (p.1, p.2) record { room = scans_length c.scan_line.ensures; places = ends_kept c.scan_line.ensures; does = λ t d q k s h l b. line_acted k h l b (scanned_fields c.scan_line.ensures c.in_ok-count.was t d) (Err c.in_err-action.field-0.0) c.in_err-action.ensures }

pub returns-in-Nothing : goal.returns-in-Nothing
returns-in-Nothing c = record { room = scans_length c.scan_line.ensures; places = ends_kept c.scan_line.ensures; does = λ t d q k s h l b. line_acted k h l b (scanned_fields c.scan_line.ensures c.in_ok-count.was t d) (Ok Nothing) (rw c.in-Nothing.is at c.in_ok-action.ensures) }

pub returns-in-Define : goal.returns-in-Define
returns-in-Define c = record { room = scans_length c.scan_line.ensures; places = ends_kept c.scan_line.ensures; does = λ t d q k s h l b. line_acted k h l b (scanned_fields c.scan_line.ensures c.in_ok-count.was t d) (Ok (Define c.in-Define.from)) (rw c.in-Define.is at c.in_ok-action.ensures) }

pub returns-in-Global : goal.returns-in-Global
returns-in-Global c = record { room = scans_length c.scan_line.ensures; places = ends_kept c.scan_line.ensures; does = λ t d q k s h l b. line_acted k h l b (scanned_fields c.scan_line.ensures c.in_ok-count.was t d) (Ok (Global c.in-Global.from)) (rw c.in-Global.is at c.in_ok-action.ensures) }

pub returns-in_err-accepted-in-Entry : goal.returns-in_err-accepted-in-Entry
returns-in_err-accepted-in-Entry c = let p = err_from_is_err_and c.from_residual-in_err-accepted-in-Entry.result c.from_residual-in_err-accepted-in-Entry.ensures.1 in rw (p.1, p.2) record { room = scans_length c.scan_line.ensures; places = ends_kept c.scan_line.ensures; does = λ t d q k s h l b. entry_fault k h l b (scanned_fields c.scan_line.ensures c.in_ok-count.was t d) c.in-Entry.from (rw c.in-Entry.is at c.in_ok-action.ensures) c.in_err-accepted-in-Entry.ensures }

pub returns-in-None : goal.returns-in-None
returns-in-None c = record { room = scans_length c.scan_line.ensures; places = ends_kept c.scan_line.ensures; does = λ t d q k s h l b. entry_passed k h l b (scanned_fields c.scan_line.ensures c.in_ok-count.was t d) c.in-Entry.from (rw c.in-Entry.is at c.in_ok-action.ensures) (rw c.in-None.is at c.in_ok-accepted-in-Entry.ensures) }

pub returns-in-Some : goal.returns-in-Some
returns-in-Some c = record { room = scans_length c.scan_line.ensures; places = ends_kept c.scan_line.ensures; does = λ t d q k s h l b. entry_decides k h l b (scanned_fields c.scan_line.ensures c.in_ok-count.was t d) c.in-Entry.from (rw c.in-Entry.is at c.in_ok-action.ensures) c.in-Some.place (rw c.in-Some.is at c.in_ok-accepted-in-Entry.ensures) }
