-- `create::link` meets its contract: either way the message is posted.
use native.Mathlib.Omega.{arith}
use mathlib.Core.Path.{sym, ◌∙◌}
use mathlib.Core.List.{[], ◌∷◌, ◌++◌}
use Rattle.tasks.specs.History.{link_message}
use Rattle.memory.specs.Shares.{Stored}
use Rattle.duties.proofs.Held.{own_stored}
use Rattle.duties.proofs.Creating.{to_link, first_letter, later_letter, before_end, access_below, linking_facts, links_holds}
use Rattle.duties.proofs.create.link.Goals as goal
use Rattle.duties.proofs.create.link.Goals.{in-None, in-Some}

pub offset_bounds-accesses-access : goal.offset_bounds-accesses-access
offset_bounds-accesses-access c =
    let ((m, w, a, l), none, one) = c.requires in
    omega (arith, linking_facts a c.args.access one l)

pub bounds : goal.bounds
bounds c =
    let ((m, w, a, l), none, one) = c.requires in
    (linking_facts a c.args.access one l).access

pub post-requires : goal.post-requires
post-requires c =
    let ((m, w, a, l), none, one) = c.requires in
    let f = linking_facts a c.args.access one l in
    (f.part, f.mail_at_lem, omega (arith, none), omega arith)

pub overflow_add-result : goal.overflow_add-result
overflow_add-result c =
    let ((m, w, a, l), none, one) = c.requires in
    omega (arith, linking_facts a c.args.access one l)

pub overflow_add-result-2 : goal.overflow_add-result-2
overflow_add-result-2 c =
    let ((m, w, a, l), none, one) = c.requires in
    omega (arith, linking_facts a c.args.access one l)

pub returns : goal.returns
returns c m k w l a op is =
    let one = c.requires.2 in
    let x = c.args.access in
    let message = link_message a.ts x in
    let prev = a.holds.access_rows_lem.prev x (access_below a x one l) in
    let posted : Stored c.match-accesses-access.own (a.st w) (a.t.mail w ++ message ∷ []) (a.t.adds w) =
    elim c.match-accesses-access.branch [
      | in-None z ↦
          rw z.own-is (z.post.ensures.meaning (a.st w) (a.t.mail w) (a.t.adds w) message (own_stored a)
          (first_letter a.ts x (sym z.in-None.is ∙ prev)))
      | in-Some z ↦
          rw z.own-is (z.post-in-Some.ensures.meaning (a.st w) (a.t.mail w) (a.t.adds w) message (own_stored a)
          (later_letter a.ts x _ (sym z.in-Some.is ∙ prev)))
    ]
    in
    links_holds a c.args.n.task x (to_link a x one) (before_end a x one l) c.match-accesses-access.own posted k op is
