use Rattle.forms.proofs.Places.{place_in}
use Rattle.office.proofs.sinkerred_order_form.Goals as goal

pub code_of-requires-clause-place : goal.code_of-requires-clause-place
code_of-requires-clause-place c = place_in c.in-Err.ensures
