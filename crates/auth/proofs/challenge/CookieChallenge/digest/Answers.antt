use Rattle.auth.proofs.challenge.CookieChallenge.digest.Goals as goal

pub returns : goal.returns
returns c =
    let pieces = c.update-5.ensures _ (c.update-4.ensures _ (c.update-3.ensures _ (c.update-2.ensures _ (c.update.ensures _ c.new-hasher.ensures)))) in
    c.finalize.ensures _ pieces
