use Rattle.objects.proofs.Writing.{made-written}
use Rattle.objects.proofs.texts.json_made.Goals as goal

pub returns : goal.returns
returns c = rw (← made-written c.args.length) c.write_object.ensures
