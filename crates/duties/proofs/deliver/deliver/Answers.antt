-- `deliver::deliver` meets its contract: what one call ensures is what the next one asks.
use native.Mathlib.Omega.{arith}
use Rattle.duties.proofs.DeliverySteps.{take_fits, pending_fits, flags_fit, access_fits, pass_fits, give_fits, counts_fit, lower_fits, delivered}
use Rattle.duties.proofs.deliver.deliver.Goals as goal

pub take_mail-mail-requires : goal.take_mail-mail-requires
take_mail-mail-requires c =
    take_fits c.requires.0.1 c.requires.1 c.requires.2

pub set_flags-change-requires : goal.set_flags-change-requires
set_flags-change-requires c =
    flags_fit c.requires.0.1 c.requires.1 c.requires.2 c.take_mail-mail.ensures.meaning

pub offset_bounds-accesses-to : goal.offset_bounds-accesses-to
offset_bounds-accesses-to c =
    omega (arith, access_fits c.requires.0.1 c.requires.1 c.requires.2 c.take_mail-mail.ensures.meaning)

pub bounds-accesses-to : goal.bounds-accesses-to
bounds-accesses-to c =
    omega (arith, (flags_fit c.requires.0.1 c.requires.1 c.requires.2 c.take_mail-mail.ensures.meaning).0, c.set_flags-change.auto.accesses)

pub pass_on-posted-requires : goal.pass_on-posted-requires
pass_on-posted-requires c =
    pass_fits c.requires.0.1 c.requires.1 c.requires.2 c.take_mail-mail.ensures.meaning c.set_flags-change.ensures.rows c.set_flags-change.ensures.change

pub give_notice-noticed-requires : goal.give_notice-noticed-requires
give_notice-noticed-requires c =
    give_fits c.requires.0.1 c.requires.1 c.requires.2 c.take_mail-mail.ensures.meaning c.set_flags-change.ensures.rows c.set_flags-change.ensures.change
    c.pass_on-posted.ensures

pub lower-requires : goal.lower-requires
lower-requires c =
    let fits = lower_fits c.requires.0.1 c.requires.1 c.requires.2 c.take_mail-mail.ensures.meaning c.set_flags-change.ensures.rows
    c.set_flags-change.ensures.change c.pass_on-posted.ensures c.give_notice-noticed.ensures in
    record { lengths = fits.0; adds = fits.1 }

pub overflow_sub-result : goal.overflow_sub-result
overflow_sub-result c =
    (pending_fits c.requires.0.1 c.requires.1 c.requires.2).0

pub overflow_add-result : goal.overflow_add-result
overflow_add-result c =
    let counts = counts_fit c.requires.0.1 c.requires.1 c.requires.2 c.take_mail-mail.ensures.meaning c.set_flags-change.ensures.rows
    c.set_flags-change.ensures.change c.pass_on-posted.ensures c.give_notice-noticed.ensures in
    omega (arith, pending_fits c.requires.0.1 c.requires.1 c.requires.2, counts)

pub overflow_add-result-2 : goal.overflow_add-result-2
overflow_add-result-2 c =
    let counts = counts_fit c.requires.0.1 c.requires.1 c.requires.2 c.take_mail-mail.ensures.meaning c.set_flags-change.ensures.rows
    c.set_flags-change.ensures.change c.pass_on-posted.ensures c.give_notice-noticed.ensures in
    omega (arith, pending_fits c.requires.0.1 c.requires.1 c.requires.2, counts)

pub returns : goal.returns
returns c k w a op is =
    delivered a c.requires.1 c.requires.2 c.take_mail-mail.ensures.meaning c.set_flags-change.ensures.rows c.set_flags-change.ensures.change
    c.pass_on-posted.ensures c.give_notice-noticed.ensures c.lower.ensures k op is
