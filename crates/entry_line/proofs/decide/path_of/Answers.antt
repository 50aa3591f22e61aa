use mathlib.Core.Path.{◌≡◌, ap}
use borrow.Author.Rules.{rules}
use lib.ListN.{length, drop}
use Rattle.text.proofs.Buffers.{wrote_as}
use Rattle.line.specs.Contract.{fields_in}
use Rattle.variables.proofs.TextLaws.{text_fault, text_value}
use Rattle.entry.specs.Path.{starred}
use Rattle.entry_line.proofs.FieldTextLaws.{texts_told, texts_lost}
use Rattle.entry_line.proofs.decide.path_of.Goals as goal

pub returns-in_default : goal.returns-in_default
returns-in_default c = let a = c.args in
    let l : length a.path.now ≡ 1024 = search rules in
    record { wrote = wrote_as c.put_from.ensures (ap (λ t. starred a.command.now (drop a.at t)) (texts_lost _ (fields_in a.text.now a.ends.now a.count) a.index c.field-written.ensures (text_fault c.field_text.ensures c.in_default.is))); room = l }

pub returns : goal.returns
returns c = let a = c.args in
    let l : length a.path.now ≡ 1024 = search rules in
    record { wrote = wrote_as c.put_from-2.ensures (ap (λ t. starred a.command.now (drop a.at t)) (texts_told _ (fields_in a.text.now a.ends.now a.count) a.index c.field-written.ensures (text_value c.field_text.ensures c.in-Ok.is))); room = l }
