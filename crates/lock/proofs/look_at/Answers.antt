-- `lock::look_at` meets its contract.
use native.Mathlib.Omega.{arith}
use Rattle.lock.proofs.Reading.{looks_early, looks_served, looks_first}
use Rattle.lock.proofs.look_at.Goals as goal

pub returns-then-wait-at : goal.returns-then-wait-at
returns-then-wait-at c slots slot head tail registrations =
    let args = c.args in
    looks_early slots head tail args.wait.now registrations args.cell_tickets.now args.cell_tasks.now
    args.ticket.0
    args.worker.0
    args.at
    slot
    c.requires.0
    (omega (arith, c.if-wait-at.true))

pub returns-then-cell_tickets-w : goal.returns-then-cell_tickets-w
returns-then-cell_tickets-w c slots slot head tail registrations =
    let args = c.args in
    looks_served slots head tail args.wait.now registrations args.cell_tickets.now args.cell_tasks.now
    args.ticket.0
    args.worker.0
    args.at
    slot
    c.requires.0
    (omega (arith, c.if-wait-at.false))
    c.if-cell_tickets-w.true

pub returns-else-cell_tickets-w : goal.returns-else-cell_tickets-w
returns-else-cell_tickets-w c slots slot head tail registrations =
    let args = c.args in
    looks_first slots head tail args.wait.now registrations args.cell_tickets.now args.cell_tasks.now
    args.ticket.0
    args.worker.0
    args.at
    slot
    c.requires.0
    (omega (arith, c.if-wait-at.false))
    c.if-cell_tickets-w.false
