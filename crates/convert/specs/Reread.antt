-- A plan's text has the W line of its plan, and with the W line of another form it means the same plan in that form.
use Rattle.plan.specs.declared.form.Form.{Form}
use Rattle.plan.specs.Plan.{Plan}

-- the plan in another form
abbrev pub with_form : Form → Plan → Plan
with_form form p = record { workers = p.workers; form = form; tasks = p.tasks; orders = p.orders }
