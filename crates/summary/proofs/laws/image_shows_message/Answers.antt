use Rattle.summary.proofs.ImageShows.{image_shows}
use Rattle.summary.proofs.laws.image_shows_message.Goals as goal

pub returns : goal.returns
returns c = λ edition bytes m slots valid all small. image_shows edition bytes m slots valid all small
