use Rattle.objects.proofs.Writing.{told-written}
use Rattle.objects.proofs.json.json.Goals as goal

pub returns : goal.returns
returns c = rw (← told-written c.args.answer.now) c.told_json.ensures
