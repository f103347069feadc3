use Rattle.text_output.specs.Appends.{appended_is, appended_then}
use Rattle.print_names.proofs.Lists.{suspend_resume_is}
use Rattle.print_names.proofs.put_suspend_resume.Goals as goal

pub returns : goal.returns
returns c = appended_is (suspend_resume_is _) (appended_then (appended_then c.put_text.ensures c.put_decimal.ensures) c.put_text-2.ensures)
