use Rattle.reply.proofs.Speaking.{do-not-fit, do-fit}
use Rattle.reply.proofs.telling.Telling.names_for.Goals as goal

pub returns-then-not-fits : goal.returns-then-not-fits
returns-then-not-fits c = do-not-fit c.args.self.now.names c.in-Some.list c.args.problem.now c.fits.result c.in-Some.is c.fits.ensures.fit c.if-not-fits.true

pub returns : goal.returns
returns c = do-fit c.args.self.now.names c.in-Some.list c.args.problem.now c.fits.result c.in-Some.is c.fits.ensures.fit _ c.if-not-fits.false c.names.ensures
