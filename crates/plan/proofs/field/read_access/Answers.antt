-- `plan::field::read_access` meets its contract: by the first byte, the number after it being that of the cursor.
use Rattle.std.proofs.Common.{sym, ◌∙◌}
use Rattle.std.proofs.lemmas.Result.{err_from_is_err_and}
use Rattle.plan.proofs.Fields.{access_letter, access_other}
use Rattle.plan.proofs.field.read_access.Goals as goal

pub returns-in_default-clause-field : goal.returns-in_default-clause-field
returns-in_default-clause-field c =
    let self = c.args.cursor.now in
    let seen = c.look-seen.ensures in
    rw seen.counted
    (access_other self.text.now self.at self.within (rw seen.byte at (sym c.writes_of.ensures ∙ c.in_default.is))
    (rw seen.byte at c.shown_by.ensures))

pub returns-in_err-address-clause-field : goal.returns-in_err-address-clause-field
returns-in_err-address-clause-field c =
    let self = c.args.cursor.now in
    let seen = c.look-seen.ensures in
    let made = err_from_is_err_and c.from_residual.result c.from_residual.ensures.1 in
    rw (made.1, made.2)
    (access_letter self.text.now self.at self.within (rw seen.byte at (sym c.writes_of.ensures ∙ c.in-Some.is))
    (rw (seen.counted, seen.text) at c.in_err-address.ensures.field))

pub returns-clause-field : goal.returns-clause-field
returns-clause-field c =
    let self = c.args.cursor.now in
    let seen = c.look-seen.ensures in
    access_letter self.text.now self.at self.within (rw seen.byte at (sym c.writes_of.ensures ∙ c.in-Some.is))
    (rw (seen.counted, seen.text) at c.in_ok-address.ensures.field)
